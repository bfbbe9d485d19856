-- Reading from the front of some bytes of memory. What is not all there says nothing.
use Rattle.std.specs.Prelude.{ℕ, ◌+◌, ◌%◌, ◌^◌, nat_le, List, length, take, drop}
use Rattle.std.specs.Prelude.{slice_index, if◌then◌else◌}
use Rattle.std.specs.Option.{option_map}
use Rattle.std.specs.declared.option.Option.{Option}
use Rattle.std.specs.declared.option.Option.TheVariants.{None, Some}

-- the bytes that are left, and the address of the first of them
pub record Place : Type 0 where
  pub address : ℕ
  pub bytes : List ℕ

-- n bytes further on; addresses are modulo 2^64
abbrev pub after : ℕ → Place → Place
after n p = record { address = (p.address + n) % 2 ^ 64; bytes = drop n p.bytes }

-- what some bytes at the front say by a reading of n bytes, and the place after them
abbrev pub fixed : ℕ → (List ℕ → ℕ → ℕ) → Place → Option (ℕ × Place)
fixed n read p = if nat_le n (length p.bytes) then Some (read p.bytes 0, after n p) else None

-- one byte
unfoldable pub byte : Place → Option (ℕ × Place)
byte p = fixed 1 slice_index p

-- something that is passed over
abbrev pub passed : Option (ℕ × Place) → Option Place
passed read = option_map (λ r. r.1) read

-- the first n of the bytes that are left
abbrev pub first : ℕ → Place → Option Place
first n p = if nat_le n (length p.bytes) then Some (record p { bytes = take n p.bytes }) else None
