use Rattle.std.proofs.Common.{◌≡◌, ◌++◌, List, length, map, reverse}
use Rattle.crossbeam_deque.specs.Handles.{worker_deque}
use Rattle.steal_pool.specs.declared.end.Row.{Row}
use Rattle.steal_pool.specs.Pool.{AreFresh}
use Rattle.steal_pool.proofs.pool.hands_of.Given as goal

-- the last hands are made
abbrev pub invariant-loop-own : goal.invariant-loop-own
invariant-loop-own l =
    (length l.rows.items ≡ length l.owners.items) × ((done : List _) × (l.initial.owners.items ≡ l.owners.items ++ done))
    × ((done : List Row) × (l.initial.rows.items ≡ l.rows.items ++ done))
    × AreFresh (record { deques = map worker_deque l.initial.owners.items }) (length l.owners.items) (reverse l.hands.items)

abbrev pub decreases-loop-own : goal.decreases-loop-own
decreases-loop-own l = length l.owners.items
