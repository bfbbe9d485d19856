-- A count that is kept in 64 bits.
use Rattle.std.specs.Prelude.{ℕ, ◌-◌, ◌^◌, ◌<◌, ◌≤◌, ◌⊎◌}

-- The greatest count. A count that has reached it stays there.
abbrev pub greatest_count : ℕ
greatest_count = 2 ^ 64 - 1

-- The count rose between two moments: it is greater at the second, or is the greatest count there.
abbrev pub Rose : ℕ → ℕ → Type 0
Rose old new = (old < new) ⊎ (greatest_count ≤ new)
