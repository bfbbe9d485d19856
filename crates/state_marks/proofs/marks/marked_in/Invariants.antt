use Rattle.std.proofs.Common.{take}
use Rattle.std.specs.Prelude.{All}
use Rattle.state_marks.specs.Inner.Seen.{AreMarksOf}
use Rattle.state_marks.specs.Inner.Parts.{IsMade, InParts, numbers_of}
use Rattle.state_marks.proofs.marks.marked_in.Given as goal

-- all parts so far were made, and the marks at their numbers are set
abbrev pub invariant-loop-part : goal.invariant-loop-part
invariant-loop-part l = record {
  made : All IsMade (take l.part-index l.parts);
  marks : AreMarksOf l.count (InParts (numbers_of l.kind) (take l.part-index l.parts)) l.marks.items;
}
