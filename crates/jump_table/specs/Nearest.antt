-- Searches back from a jump, the nearest address first.
use Rattle.std.specs.Prelude.{ℕ, ◌+◌, ◌-◌, nat_le, List, [], ◌∷◌, zero}
use Rattle.std.specs.Prelude.{suc, Option, Some, None, if◌then◌else◌}

-- n numbers from this one on, each two more than the one before.
unfoldable pub evens : ℕ → ℕ → List ℕ
evens back zero = []
evens back (suc n) = back ∷ evens (back + 2) n

-- The first answer at the addresses that lie so far before j, and not before start.
abbrev pub nearest : {A : Type 0} → (ℕ → Option A) → ℕ → ℕ → List ℕ → Option A
nearest at start j [] = None
nearest at start j (back ∷ backs) =
    elim (if nat_le (start + back) j then at (j - back) else None) [
      | Some answer ↦ Some answer
      | None ↦ nearest at start j backs
    ]
