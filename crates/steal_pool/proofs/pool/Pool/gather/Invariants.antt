use Rattle.std.proofs.Common.{length}
use Rattle.steal_pool.proofs.Gathering.{IsGathering}
use Rattle.steal_pool.proofs.pool.Pool.gather.Given as goal

-- the last hands are taken in
abbrev pub invariant-loop-row : goal.invariant-loop-row
invariant-loop-row l = IsGathering l.fn.self.deques l.fn.hands.items l.initial.rows.items l.rows.items l.owners.items

abbrev pub decreases-loop-row : goal.decreases-loop-row
decreases-loop-row l = length l.rows.items
