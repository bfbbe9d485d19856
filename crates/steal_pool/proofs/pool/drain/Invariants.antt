use Rattle.std.proofs.Common.{◌≡◌, ◌-◌, length}
use Rattle.crossbeam_deque.specs.Handles.{worker_view, worker_flavor}
use Rattle.steal_pool.proofs.Gathering.{IsDraining}
use Rattle.steal_pool.proofs.pool.drain.Given as goal

-- the names so far were the first that were left
abbrev pub invariant-loop-name : goal.invariant-loop-name
invariant-loop-name l = IsDraining (worker_view l.initial.own) (worker_view l.own) l.initial.left.items l.left.items × (worker_flavor l.own ≡ 0)

-- the names that are put and not taken yet
abbrev pub decreases-loop-name : goal.decreases-loop-name
decreases-loop-name l = length (worker_view l.own).put - length (worker_view l.own).taken
