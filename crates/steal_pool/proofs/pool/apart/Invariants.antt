use Rattle.std.proofs.Common.{◌≡◌, ◌++◌}
use Rattle.std.specs.Vec.Iter.{into_iter_items}
use Rattle.steal_pool.specs.inner.Building.{AreApart}
use Rattle.steal_pool.proofs.pool.apart.Given as goal

abbrev pub invariant-loop-hand : goal.invariant-loop-hand
invariant-loop-hand l = (l.yielded ++ into_iter_items l.hand-iterator ≡ l.fn.hands.items) × AreApart l.yielded l.owners.items l.rows.items
