use Rattle.std.proofs.Common.{◌≡◌, length}
use Rattle.steal_pool.specs.inner.Building.{AreOwners}
use Rattle.steal_pool.proofs.pool.owners_of.Given as goal

abbrev pub invariant-loop : goal.invariant-loop
invariant-loop l = (length l.owners.items ≡ l.counter) × AreOwners 0 l.owners.items
