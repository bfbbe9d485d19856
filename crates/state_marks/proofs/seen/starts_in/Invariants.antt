use Rattle.std.proofs.Common.{take, Contains}
use Rattle.state_marks.specs.Inner.Seen.{AreNumbersOf}
use Rattle.state_marks.proofs.seen.starts_in.Given as goal

-- the numbers are those of the starts so far
abbrev pub invariant-loop-a : goal.invariant-loop-a
invariant-loop-a g l = AreNumbersOf (g.C.Numbered.number l.code) (Contains (take l.a-index l.a-items)) l.numbers.items
