use Rattle.std.proofs.Common.{◌<◌, true, length, set, refl, ap, arith}
use Rattle.reached_terms.proofs.Bits.{on_set}
use Rattle.reached_terms.proofs.Sending.{note-step}
use Rattle.reached_terms.proofs.marks.Marks.note.Goals as goal

pub returns-clause-step : goal.returns-clause-step
returns-clause-step g c =
    note-step (g.C.Chains.map c.args.code.now) (g.C.Numbered.number c.args.code.now) c.args.a c.requires.has c.args.self.now _ c.requires.kept
    refl refl refl refl refl refl (ap (λ n. set c.args.self.now.sent.items n true) c.requires.number)

pub returns-clause-sent : goal.returns-clause-sent
returns-clause-sent g c =
    let number = g.C.Numbered.number c.args.code.now in
    let marks = c.args.self.now.sent.items in
    let within : number c.args.a < length marks = omega (arith, c.requires.kept.numbering.below c.args.a c.requires.has, c.requires.kept.sent) in
    rw c.requires.number (on_set marks (number c.args.a) within)
