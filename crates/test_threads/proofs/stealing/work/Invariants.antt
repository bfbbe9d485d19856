use Rattle.steal_pool.specs.Pool.{IsSameHand}
use Rattle.test_threads.proofs.stealing.work.Given as goal

-- it is still the same hand
abbrev pub invariant-loop-k : goal.invariant-loop-k
invariant-loop-k g l = IsSameHand l.fn.hand l.hand

abbrev pub invariant-loop : goal.invariant-loop
invariant-loop g l = IsSameHand l.fn.hand l.hand
