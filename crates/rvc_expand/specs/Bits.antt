-- Numbers made of bits of other numbers, by arithmetic alone. Bit 0 is the lowest.
use Rattle.std.specs.Prelude.{ℕ, ◌+◌, ◌-◌, ◌*◌, ◌/◌, ◌%◌, ◌^◌, List, [], ◌∷◌, if◌then◌else◌, nat_lt}

-- bits `high` to `low` of a number, both included, with `low` moved to bit 0
abbrev pub field : ℕ → ℕ → ℕ → ℕ
field number high low = number / 2 ^ low % 2 ^ (high + 1 - low)

-- A scattered number. Each item (high, low, at) puts bits `high` to `low` of the source at bit `at`
-- and above, as the ISA manual's immediates are labelled.
abbrev pub placed : ℕ → List (ℕ × ℕ × ℕ) → ℕ
placed source [] = 0
placed source ((high, low, at) ∷ moves) = field source high low * 2 ^ at + placed source moves

-- a number of `width` bits in two's complement, written with `wide` bits
abbrev pub sign_extended : ℕ → ℕ → ℕ → ℕ
sign_extended width wide number =
    if nat_lt number (2 ^ (width - 1)) then number else number + (2 ^ wide - 2 ^ width)
