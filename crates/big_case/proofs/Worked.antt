-- The definitions at work, by computation.
use Rattle.std.proofs.Common.{◌≡◌, ℕ, ◌+◌, ◌*◌, ◌-◌, ◌%◌, ◌^◌, ◌<◌, ◌≤◌, [], ◌∷◌, length, refl, arith}
use Rattle.big_case.specs.Pair.{upper_part, pair}
use Rattle.big_case.specs.Places.{slot_at, table_at}
use Rattle.big_case.specs.Slots.{function, slots}
use Rattle.big_case.specs.Tables.{table, rodata_bytes}
use Rattle.elf_maker.specs.Fields.{words}

-- a lower part below 2^11 is added, and a greater one is taken away as its sign says: both parts
-- together are the distance
low_added : (d : ℕ) → d % 2 ^ 12 < 2 ^ 11 → 2 ^ 12 * upper_part d + d % 2 ^ 12 ≡ d
low_added d h = omega arith

low_taken_away : (d : ℕ) → 2 ^ 11 ≤ d % 2 ^ 12 → 2 ^ 12 * upper_part d + d % 2 ^ 12 ≡ d + 2 ^ 12
low_taken_away d h = omega arith

-- the distance to the table of slot 3, whose lower part is -198 (hexadecimal)
to_table : pair 0x00000717 0x00070713 (table_at 0 - (slot_at 3 + 24)) ≡ 0x01FF0717 ∷ 0xE6870713 ∷ []
to_table = refl

-- functions of a program of four
first_function : function 4 0 ≡ 0x00000097 ∷ 0x080080E7 ∷ 0x00000097 ∷ 0x0F8080E7 ∷ 0xFFF50513 ∷ 0xFE051EE3 ∷ 0x00008067 ∷ []
unfolding function
first_function = refl

branching_function : function 4 2 ≡ 0x00000097 ∷ 0x100080E7 ∷ 0x00000097 ∷ 0x0F8080E7 ∷ 0x00050663 ∷ 0x00000097 ∷ 0x16C080E7 ∷ 0x00008067 ∷ []
unfolding function
branching_function = refl

-- the one table of four functions
one_table : table 0 ≡ 0xFE0101B4 ∷ 0xFE0101B8 ∷ 0xFE0101BC ∷ 0xFE0101C0 ∷ []
one_table = refl

-- the sizes of the code and of the read-only data
sizes : (length (slots 5) ≡ 7) × (length (rodata_bytes 5) ≡ 16) × (length (rodata_bytes 8) ≡ 32)
unfolding slots rodata_bytes words
sizes = (refl, refl, refl)
