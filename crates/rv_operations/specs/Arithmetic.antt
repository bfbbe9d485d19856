-- Arithmetic on registers of 64 bits and on words of 32. A register is the number that its bits
-- spell, and `cast_signed` reads it in two's complement (RISC-V Unprivileged ISA 20240411, sections
-- 2.1, 4.1, 4.2 and 13).
use Rattle.std.specs.Prelude.{ℕ, ◌+◌, ◌-◌, ◌*◌, ◌/◌, ◌%◌, ◌^◌, ◌==◌, nat_lt, if◌then◌else◌, ℤ, pos}
use Rattle.std.specs.Prelude.{◌*ℤ◌, int_lt}
use Rattle.std.specs.Int.{Width, w32, w64, cast_signed, cast_unsigned, from_bool}
use Rattle.std.specs.Int.{int_shr, int_wrapping_div}
use Rattle.std.specs.Int.RustNames.{int_rem}
use mir.Val.{bits}

-- ---- words of 32 bits in a register

-- the low 32 bits of a register
abbrev pub low_word : ℕ → ℕ
low_word x = x % 2 ^ 32

-- a number of the width, sign-extended to 64 bits
abbrev pub sign_extended : Width → ℕ → ℕ
sign_extended w x = cast_unsigned w64 (cast_signed w x)

-- ---- sums and shifts: a shift takes the low 6 bits of the amount, of a word the low 5

abbrev pub sum : Width → ℕ → ℕ → ℕ
sum w x y = (x + y) % 2 ^ bits w

abbrev pub difference : Width → ℕ → ℕ → ℕ
difference w x y = (x + (2 ^ bits w - y)) % 2 ^ bits w

abbrev pub shifted_left : Width → ℕ → ℕ → ℕ
shifted_left w x y = x * 2 ^ (y % bits w) % 2 ^ bits w

abbrev pub shifted_right : Width → ℕ → ℕ → ℕ
shifted_right w x y = x / 2 ^ (y % bits w)

-- the sign bit comes in from the left
abbrev pub shifted_right_signed : Width → ℕ → ℕ → ℕ
shifted_right_signed w x y = cast_unsigned w (int_shr (cast_signed w x) (y % bits w))

-- ---- comparisons give 1 or 0

abbrev pub is_less : ℕ → ℕ → ℕ
is_less x y = from_bool (int_lt (cast_signed w64 x) (cast_signed w64 y))

abbrev pub is_less_unsigned : ℕ → ℕ → ℕ
is_less_unsigned x y = from_bool (nat_lt x y)

-- ---- products: the low half, and the high half of all 128 bits

abbrev pub product : Width → ℕ → ℕ → ℕ
product w x y = x * y % 2 ^ bits w

abbrev pub high_half : ℤ → ℤ → ℕ
high_half x y = cast_unsigned w64 (int_shr (x *ℤ y) 64)

abbrev pub high_half_unsigned : ℕ → ℕ → ℕ
high_half_unsigned x y = x * y / 2 ^ 64

-- ---- quotients round toward zero. A zero divisor gives all ones and the dividend as remainder; the
-- least number by -1 gives itself and remainder 0

abbrev pub quotient : Width → ℕ → ℕ → ℕ
quotient w x y =
    if y == 0 then 2 ^ bits w - 1
    else cast_unsigned w (int_wrapping_div w (cast_signed w x) (cast_signed w y))

abbrev pub quotient_unsigned : Width → ℕ → ℕ → ℕ
quotient_unsigned w x y = if y == 0 then 2 ^ bits w - 1 else x / y

abbrev pub remainder : Width → ℕ → ℕ → ℕ
remainder w x y =
    if y == 0 then x else cast_unsigned w (int_rem (cast_signed w x) (cast_signed w y))

abbrev pub remainder_unsigned : ℕ → ℕ → ℕ
remainder_unsigned x y = if y == 0 then x else x % y
