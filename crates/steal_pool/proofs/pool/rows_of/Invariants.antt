use Rattle.std.proofs.Common.{◌≡◌, map, length}
use Rattle.crossbeam_deque.specs.Handles.{worker_deque}
use Rattle.steal_pool.specs.inner.Building.{AreOwners, AreRows}
use Rattle.steal_pool.proofs.pool.rows_of.Given as goal

abbrev pub invariant-loop-number : goal.invariant-loop-number
invariant-loop-number l =
    (map worker_deque l.owners.items ≡ map worker_deque l.initial.owners.items) × AreOwners l.number l.owners.items
    × (length l.rows.items ≡ l.number) × AreRows (map worker_deque l.initial.owners.items) l.rows.items
