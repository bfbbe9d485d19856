-- The read-only data of a large program of n functions: this project's profile. Each function
-- whose number is 4 j + 3 has a jump table, table j.
use Rattle.std.specs.Prelude.{ℕ, ◌+◌, ◌-◌, ◌*◌, ◌/◌, ◌%◌, ◌^◌, List, [], ◌∷◌, map}
use Rattle.std.specs.List.{flat_map, range_with_len}
use Rattle.elf_maker.specs.Fields.{words}
use Rattle.big_case.specs.Places.{slot_at, table_at}

-- the entry for the instruction at `offset` in the slot of table j: its distance from the table,
-- modulo 2^32
abbrev pub table_entry : ℕ → ℕ → ℕ
table_entry j offset = (2 ^ 32 + (slot_at (4 * j + 3) + offset) - table_at j) % 2 ^ 32

-- the entries of table j: the four instructions after the jump through it
abbrev pub table : ℕ → List ℕ
table j = table_entry j 52 ∷ table_entry j 56 ∷ table_entry j 60 ∷ table_entry j 64 ∷ []

-- the bytes of all tables
unfoldable pub rodata_bytes : ℕ → List ℕ
rodata_bytes n = flat_map words (map table (range_with_len 0 (n / 4)))
