-- What is found at the entries of a map.
use Rattle.std.specs.Prelude.{◌≡◌, ℕ, ◌<◌, List, length, Some, slice_index_or}
use Rattle.std.specs.Ordering.{nat_cmp}
use Rattle.std.specs.FinMap as maps

-- It is found at an entry of the map.
pub record IsFoundAmong {X A : Type 0} (At : ℕ → X → A → Type 0) (m : maps.FinMap nat_cmp X)
    (found : A) : Type 0 where
  pub key : ℕ
  pub entry : X
  pub has : maps.get m key ≡ Some entry
  pub there : At key entry found

-- It is found at an entry of one of these parts of a map.
pub record IsFoundInPart {X A : Type 0} (At : ℕ → X → A → Type 0)
    (parts : List (maps.FinMap nat_cmp X)) (found : A) : Type 0 where
  pub part : ℕ
  pub within : part < length parts
  pub there : IsFoundAmong At (slice_index_or parts part maps.empty) found
