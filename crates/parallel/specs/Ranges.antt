-- Which addresses lie in a range.
use Rattle.std.specs.Prelude.{ℕ, ◌≤◌, ◌<◌, Option, Some, None}
use Rattle.parallel.specs.declared.ranges.AddressRange.{AddressRange}

-- a lies above b, if there is a b.
abbrev pub IsAbove : Option ℕ → ℕ → Type 0
IsAbove None a = Unit {0}
IsAbove (Some b) a = b < a

-- a does not lie above b, if there is a b.
abbrev pub IsUpTo : Option ℕ → ℕ → Type 0
IsUpTo None a = Unit {0}
IsUpTo (Some b) a = a ≤ b

-- a lies in the range.
abbrev pub IsIn : AddressRange → ℕ → Type 0
IsIn range a = IsAbove range.after a × IsUpTo range.last a
