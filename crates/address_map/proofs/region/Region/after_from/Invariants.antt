use Rattle.std.proofs.Common.{ℕ, ◌≤◌}
use Rattle.address_map.specs.Joined.{joined}
use Rattle.address_map.specs.Keys.{IsKeyAbove}
use Rattle.address_map.specs.inner.Grouped.{place_of}
use Rattle.address_map.proofs.region.Region.after_from.Given as goal

abbrev pub invariant-loop-place : goal.invariant-loop-place
invariant-loop-place g l = (x : ℕ) → IsKeyAbove (joined l.self-inside.chunks.items) l.a x → l.place ≤ place_of x
