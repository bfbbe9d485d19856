-- An instruction that goes straight on.
use Rattle.std.specs.Prelude.{◌≡◌, ℕ, ◌⊎◌, List, if◌then◌else◌, Option, Some, None}
use Rattle.rv_flow.specs.declared.placed.Placed.{Placed}
use Rattle.rv_flow.specs.Placed.{placed_at}
use Rattle.jump_table.specs.Section.{goes_on}

-- The instruction at a with its length, if it lies in the section and goes straight on.
abbrev pub straight_at : List ℕ → ℕ → ℕ → Option Placed
straight_at bytes start a = if goes_on bytes start a then Some (placed_at bytes a) else None

-- The length of an instruction in bytes.
abbrev pub IsLength : ℕ → Type 0
IsLength n = (n ≡ 2) ⊎ (n ≡ 4)
