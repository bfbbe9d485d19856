use Rattle.std.proofs.Common.{◌≡◌, length}
use Rattle.live_regs.specs.Noted.{AreNotesOf}
use Rattle.live_crew.proofs.by_one.all_notes.Given as goal

abbrev pub invariant-loop-piece : goal.invariant-loop-piece
invariant-loop-piece l = record {
  long : length l.notes.items ≡ l.piece;
  are : AreNotesOf l.image l.blocks l.notes.items;
}
