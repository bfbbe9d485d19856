-- The code addresses of a file, numbered from 0 in the order of the addresses (this project's
-- profile). What is known of each code address can be kept in an array.
use Rattle.std.specs.Prelude.{◌≡◌, ℕ, ◌+◌, ◌<◌, ◌^◌, zero, suc, true, List, if◌then◌else◌}
use Rattle.elf_image.specs.Code.{is_code}
use Rattle.elf_image.specs.Faults.{IsImage}

-- How many code addresses lie below an address. Of a code address it is its number.
unfoldable pub codes_below : List ℕ → ℕ → ℕ
codes_below bytes zero = 0
codes_below bytes (suc a) = codes_below bytes a + (if is_code bytes a then 1 else 0)

-- How many code addresses there are.
unfoldable pub code_count : List ℕ → ℕ
code_count bytes = codes_below bytes (2 ^ 64)

-- Different code addresses have different numbers, in the same order.
abbrev pub NumbersRise : Type 0
NumbersRise =
    (bytes : List ℕ) (a b : ℕ) → is_code bytes a ≡ true → a < b
    → codes_below bytes a < codes_below bytes b

-- The number of a code address of an accepted file is below their count.
abbrev pub NumbersAreBelow : Type 0
NumbersAreBelow =
    (bytes : List ℕ) (a : ℕ) → IsImage bytes → is_code bytes a ≡ true
    → codes_below bytes a < code_count bytes
