use Rattle.std.proofs.Common.{take}
use Rattle.state_marks.specs.Inner.Seen.{AddsMarks}
use Rattle.state_marks.proofs.marks.mark.Given as goal

-- the marks at the numbers so far are set
abbrev pub invariant-loop-n : goal.invariant-loop-n
invariant-loop-n l = AddsMarks (take l.n-index l.numbers) l.initial.marks l.marks
