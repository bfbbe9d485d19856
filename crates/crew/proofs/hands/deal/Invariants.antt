use Rattle.steal_pool.specs.Pool.{IsSameHand}
use Rattle.crew.proofs.hands.deal.Given as goal

-- it is still the same hand
abbrev pub invariant-loop-seed : goal.invariant-loop-seed
invariant-loop-seed l = IsSameHand l.fn.hand l.hand
