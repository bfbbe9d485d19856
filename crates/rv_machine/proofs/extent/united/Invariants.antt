use Rattle.rv_machine.proofs.Apart.{IsUnitedSoFar}
use Rattle.rv_machine.proofs.extent.united.Given as goal

-- the first i ranges are united
abbrev pub invariant-loop-i : goal.invariant-loop-i
invariant-loop-i l = IsUnitedSoFar l.sorted.items l.united.items l.i
