-- Blocks that are found one after another, each once.
use Rattle.std.specs.Prelude.{◌≡◌, ◌≢◌, ◌↔◌, ℕ, ◌<◌, ◌≤◌, List, length, slice_index_or}
use Rattle.std.specs.Prelude.{All, AllPairs, Contains}

-- The blocks in this order are different, and exactly those with this stamp, which no other stamp
-- is above.
pub record AreStamped (stamp : ℕ) (order stamps : List ℕ) : Type 0 where
  pub apart : AllPairs ◌≢◌ order
  pub known : (j : ℕ) → Contains order j → j < length stamps
  pub exact : (j : ℕ) → j < length stamps
      → (slice_index_or stamps j 0 ≡ stamp) ↔ Contains order j
  pub most : All (λ s. s ≤ stamp) stamps
