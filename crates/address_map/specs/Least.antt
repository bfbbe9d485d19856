-- The least of the numbers that a fact holds of.
use Rattle.std.specs.Prelude.{ℕ, ◌≤◌, Option, Some, None, min}
pub use Rattle.parallel.specs.Ranges.{IsAbove}

-- It is the least number that P holds of; there is none if P holds of none.
abbrev pub IsLeast : (ℕ → Type 0) → Option ℕ → Type 0
IsLeast P None = (x : ℕ) → ¬ P x
IsLeast P (Some x) = P x × ((y : ℕ) → P y → x ≤ y)

-- The lesser of two numbers; each may be none.
abbrev pub lesser_of : Option ℕ → Option ℕ → Option ℕ
lesser_of None y = y
lesser_of (Some x) None = Some x
lesser_of (Some x) (Some y) = Some (min x y)
