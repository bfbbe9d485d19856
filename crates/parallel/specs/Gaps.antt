-- The gaps that bounds leave between them, before the first and after the last.
use Rattle.std.specs.Prelude.{ℕ, zero, suc, List, Option, None, slice_get}
use Rattle.parallel.specs.declared.ranges.AddressRange.{AddressRange}

-- The bound before a gap.
abbrev pub bound_before : List ℕ → ℕ → Option ℕ
bound_before bounds zero = None
bound_before bounds (suc i) = slice_get bounds i

-- The gap of a number.
abbrev pub gap : List ℕ → ℕ → AddressRange
gap bounds i = record { after = bound_before bounds i; last = slice_get bounds i }

-- All addresses.
abbrev pub whole : AddressRange
whole = record { after = None; last = None }
