use Rattle.std.proofs.Common.{◌≡◌, ◌++◌, List, length}
use Rattle.steal_pool.specs.inner.Building.{AreDrained}
use Rattle.steal_pool.proofs.pool.drain_all.Given as goal

-- the last owners' deques are empty
abbrev pub invariant-loop-own : goal.invariant-loop-own
invariant-loop-own l = (done : List _) × (l.initial.owners.items ≡ l.owners.items ++ done) × AreDrained done l.left.items

abbrev pub decreases-loop-own : goal.decreases-loop-own
decreases-loop-own l = length l.owners.items
