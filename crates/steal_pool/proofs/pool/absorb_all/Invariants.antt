use Rattle.std.proofs.Common.{◌≡◌, ◌++◌, List, length}
use Rattle.steal_pool.specs.declared.end.End.{End}
use Rattle.steal_pool.specs.inner.Building.{AreJoined}
use Rattle.steal_pool.proofs.pool.absorb_all.Given as goal

-- the last owners took in their passes
abbrev pub invariant-loop-end : goal.invariant-loop-end
invariant-loop-end l =
    (done : List End) × (l.initial.ends.items ≡ l.ends.items ++ done) × AreJoined (length l.ends.items) l.initial.owners.items l.initial.ends.items l.owners.items

abbrev pub decreases-loop-end : goal.decreases-loop-end
decreases-loop-end l = length l.ends.items
