use Rattle.steal_pool.specs.Pool.{AreAllHands}
use Rattle.crew.proofs.hands.dealt.Given as goal

-- they are still all hands of the pool
abbrev pub invariant-loop-number : goal.invariant-loop-number
invariant-loop-number l = AreAllHands l.pool l.all.items
