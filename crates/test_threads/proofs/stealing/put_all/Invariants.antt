use Rattle.steal_pool.specs.Pool.{IsSameHand}
use Rattle.test_threads.proofs.stealing.put_all.Given as goal

-- it is still the same hand
abbrev pub invariant-loop-key : goal.invariant-loop-key
invariant-loop-key g l = IsSameHand l.fn.hand l.hand
