use Rattle.std.proofs.Common.{List, subst, sym}
use Rattle.steal_pool.specs.Pool.{DequeId}
use Rattle.steal_pool.specs.inner.Building.{AreRows}
use Rattle.steal_pool.proofs.pool.Pool.new.Goals as goal

pub hands_of-requires-clause-rows : goal.hands_of-requires-clause-rows
hands_of-requires-clause-rows c = subst (λ (d : List DequeId). AreRows d c.in_ok-rows.rows.items) (sym c.in_ok-rows.ensures.deques) c.in_ok-rows.ensures.rows.1
