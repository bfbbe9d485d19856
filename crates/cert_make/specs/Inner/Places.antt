-- Addresses by their places in a list.
use Rattle.std.specs.Prelude.{◌≡◌, ℕ, ◌+◌, ◌<◌, List, length, slice_index_or, Contains, IsSome}
use Rattle.std.specs.List.Sorted.{IsStrictlyIncreasing}
use Rattle.cfg_model.specs.Program.Instructions.{InstructionMap}
use Rattle.numbered.specs.Numbering.{IsNumbering}
use Rattle.cert_make.specs.declared.places.Places.{Places}

-- The address at a place.
abbrev pub at : List ℕ → ℕ → ℕ
at addresses i = slice_index_or addresses i 0

-- The address a stands at this place.
pub record IsAt (addresses : List ℕ) (i a : ℕ) : Type 0 where
  pub within : i < length addresses
  pub is : at addresses i ≡ a

-- The place of an address, as it is kept by the numbers of the addresses: from 1 on, or 0 if there
-- is none.
abbrev pub placed_by : (ℕ → ℕ) → List ℕ → ℕ → ℕ
placed_by number places a = slice_index_or places (number a) 0

-- The addresses rise, an instruction stands at each, and the place of each is found by its number.
pub record ArePlaced (map : InstructionMap) (number : ℕ → ℕ) (places : Places) : Type 0 where
  pub rise : IsStrictlyIncreasing places.addresses.now
  pub stand : (a : ℕ) → Contains places.addresses.now a → IsSome (map a)
  pub numbering : IsNumbering map number (length places.places.items)
  pub none : (a : ℕ) → IsSome (map a) → placed_by number places.places.items a ≡ 0
      → ¬ Contains places.addresses.now a
  pub some : (a i : ℕ) → IsSome (map a) → placed_by number places.places.items a ≡ i + 1
      → IsAt places.addresses.now i a
