use Rattle.std.proofs.Common.{◌≡◌, map, length}
use Rattle.crossbeam_deque.specs.Handles.{worker_deque}
use Rattle.steal_pool.proofs.Making.{AreMaking}
use Rattle.steal_pool.proofs.pool.ends_of.Given as goal

abbrev pub invariant-loop-k : goal.invariant-loop-k
invariant-loop-k l = AreMaking l.number l.k (map worker_deque l.initial.owners.items) l.owners.items l.ends.items × (length l.owners.items ≡ length l.initial.owners.items)
