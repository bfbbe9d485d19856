-- What a reader of the file that is made of some parts is to be given.
use Rattle.std.specs.Prelude.{◌≡◌, ℕ, ◌+◌, ◌-◌, ◌&&◌, ◌||◌, ◌⊎◌, nat_le, Bool, IsTrue, length}
use Rattle.std.specs.Prelude.{if◌then◌else◌}
use Rattle.std.specs.List.{Any}
use Rattle.std.specs.declared.option.Option.{Option}
use Rattle.std.specs.declared.option.Option.TheVariants.{None, Some}
use Rattle.elf_image.specs.Number.{u16_at, u32_at}
use Rattle.elf_image.specs.Code.{is_even}
use Rattle.elf_maker.specs.declared.parts.Parts.{Parts}

-- the n bytes from address a on lie in the code, or in the read-only data
abbrev pub is_in_code : Parts → ℕ → ℕ → Bool
is_in_code parts a n = nat_le parts.code_at a && nat_le (a + n) (parts.code_at + length parts.code)

abbrev pub is_in_rodata : Parts → ℕ → ℕ → Bool
is_in_rodata parts a n =
    nat_le parts.rodata_at a && nat_le (a + n) (parts.rodata_at + length parts.rodata)

-- a is a code address
abbrev pub is_code_given : Parts → ℕ → Bool
is_code_given parts a = is_even a && is_in_code parts a 2

-- the halfword of the code at a code address
abbrev pub half_given : Parts → ℕ → Option ℕ
half_given parts a =
    if is_code_given parts a then Some (u16_at parts.code (a - parts.code_at)) else None

-- the word of the code at a code address, if the code has all four bytes
abbrev pub word_given : Parts → ℕ → Option ℕ
word_given parts a =
    if is_even a && is_in_code parts a 4 then Some (u32_at parts.code (a - parts.code_at)) else None

-- the byte at a cannot be written: it is read-only data or code
abbrev pub is_read_only_given : Parts → ℕ → Bool
is_read_only_given parts a = is_in_code parts a 1 || is_in_rodata parts a 1

-- the word of the code or of the read-only data at a
abbrev pub data_given : Parts → ℕ → Option ℕ
data_given parts a =
    if is_in_code parts a 4 then Some (u32_at parts.code (a - parts.code_at))
    else (if is_in_rodata parts a 4 then Some (u32_at parts.rodata (a - parts.rodata_at)) else None)

-- a is the entry, or the address of a symbol and a code address
abbrev pub IsSeedGiven : Parts → ℕ → Type 0
IsSeedGiven parts a =
    (a ≡ parts.entry) ⊎ (IsTrue (is_code_given parts a) × Any (λ s. s.address ≡ a) parts.symbols)
