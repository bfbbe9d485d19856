use Rattle.live_regs.proofs.Noted.{note_found}
use Rattle.live_regs.proofs.program.Program.note.Goals as goal

pub returns-in-Some : goal.returns-in-Some
returns-in-Some c =
    let piece = c.in_ok-piece.ensures.lookup in
    let note = c.in-Some.ensures.lookup in
    note_found _ _ _ _ c.args.number c.in_ok-piece.piece.now _ c.in-Some.effects.now
    c.requires.noted.notes c.deref.ensures.value c.deref-2.ensures.value piece.3.0 piece.1 note.3.0 note.1
