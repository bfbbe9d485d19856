use Rattle.std.proofs.Common.{◌≡◌, map, take}
use Rattle.crossbeam_deque.specs.Handles.{worker_deque, stealer_deque}
use Rattle.steal_pool.proofs.pool.thieves_of.Given as goal

abbrev pub invariant-loop-k : goal.invariant-loop-k
invariant-loop-k l = map stealer_deque l.thieves.items ≡ map worker_deque (take l.k l.owners.items)
