use Rattle.std.proofs.Common.{length, vec_len}
use Rattle.steal_pool.specs.Pool.{AreFresh}
use Rattle.crew.specs.inner.Team.{AreFirst}
use Rattle.crew.proofs.hands.in_order.Given as goal

-- the first hands are there, and the others are fresh
abbrev pub invariant-loop-hand : goal.invariant-loop-hand
invariant-loop-hand l = AreFresh l.pool (vec_len l.all) l.rest × AreFirst l.pool l.all.items

abbrev pub decreases-loop-hand : goal.decreases-loop-hand
decreases-loop-hand l = length l.rest
