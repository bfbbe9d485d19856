-- How numbers are printed. Counts are `decimal`: ten digits, none of them a leading zero.
use Rattle.std.specs.Prelude.{ℕ, zero, suc, ◌/◌, ◌%◌, false, List, [], ◌∷◌, ◌++◌}
use Rattle.std.specs.Fmt.{digit_glyph}

-- The hexadecimal digit of a number below 16, in lower case.
abbrev pub hex_digit : ℕ → ℕ
hex_digit n = digit_glyph false n

-- The last hexadecimal digits of a number, this many, the highest first.
unfoldable pub hex_digits : ℕ → ℕ → List ℕ
hex_digits zero n = []
hex_digits (suc count) n = hex_digits count (n / 16) ++ hex_digit (n % 16) ∷ []

-- A mask of registers: eight hexadecimal digits. Bit r stands for register xr.
abbrev pub mask_digits : ℕ → List ℕ
mask_digits mask = hex_digits 8 mask

-- An address: sixteen hexadecimal digits.
abbrev pub address_digits : ℕ → List ℕ
address_digits a = hex_digits 16 a
