-- Two instructions that reach an address by its distance (RISC-V psABI, "PC-Relative Symbol
-- Addresses"): AUIPC adds the upper part times 2^12 to the program counter, and the second adds
-- the lower part.
use Rattle.std.specs.Prelude.{ℕ, ◌+◌, ◌*◌, ◌/◌, ◌%◌, ◌^◌, List, [], ◌∷◌}

-- the upper part, rounded to the nearest: the lower part has twelve bits and a sign, so it is
-- from -2048 to 2047
abbrev pub upper_part : ℕ → ℕ
upper_part distance = (distance + 2 ^ 11) / 2 ^ 12

-- AUIPC has the upper part in bits 31 to 12 (U-type)
abbrev pub first_word : ℕ → ℕ → ℕ
first_word word distance = word + 2 ^ 12 * (upper_part distance % 2 ^ 20)

-- the second has the lower part, the distance less 2^12 times the upper part, in bits 31 to 20
-- (I-type); modulo 2^12 that is the distance
abbrev pub second_word : ℕ → ℕ → ℕ
second_word word distance = word + 2 ^ 20 * (distance % 2 ^ 12)

-- both words, from the words without a distance
abbrev pub pair : ℕ → ℕ → ℕ → List ℕ
pair first second distance = first_word first distance ∷ second_word second distance ∷ []
