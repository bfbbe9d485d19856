use Rattle.std.proofs.Common.{arith}
use Rattle.steal_pool.proofs.Rules.{puts}
use Rattle.steal_pool.proofs.hand.Hand.put.Goals as goal

pub push_as-requires-clause-pushes : goal.push_as-requires-clause-pushes
push_as-requires-clause-pushes c = puts _ _ _ (omega (arith, c.self.invariant.owns.whole, c.self.invariant.inside))
