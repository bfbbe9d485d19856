use Rattle.std.proofs.Common.{take}
use Rattle.state_marks.specs.Inner.Seen.{AreNumbersOf}
use Rattle.state_marks.proofs.Numbers.{IsAmong, IsReturningAmong}
use Rattle.state_marks.proofs.seen.terms_in.Given as goal

-- the numbers are those of the terminators so far, and of those of them that return
abbrev pub invariant-loop-k : goal.invariant-loop-k
invariant-loop-k g l = record {
  reached : AreNumbersOf (g.C.Numbered.number l.code) (IsAmong (take l.k-index l.k-items)) l.reached.items;
  returns : AreNumbersOf (g.C.Numbered.number l.code) (IsReturningAmong (take l.k-index l.k-items)) l.returns.items;
}
