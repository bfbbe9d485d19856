-- Common records, which frame records name: Common Information Entries (LSB Core, "The Common
-- Information Entry Format").
use Rattle.std.specs.Prelude.{ℕ, ◌+◌, ◌/◌, ◌%◌, ◌==◌, ◌||◌, List, [], ◌∷◌, length}
use Rattle.std.specs.Prelude.{if◌then◌else◌}
use Rattle.std.specs.Option.{option_map, option_and_then}
use Rattle.std.specs.declared.option.Option.{Option}
use Rattle.std.specs.declared.option.Option.TheVariants.{None, Some}
use Rattle.elf_image.specs.Attributes.{zero_ended}
use Rattle.elf_image.specs.Number.{u32_at}
use Rattle.landing_pads.specs.declared.common.Common.{Common}
use Rattle.landing_pads.specs.Place.{Place, after, fixed, byte, first, passed}
use Rattle.landing_pads.specs.Number.{uleb128, sleb128, number}

-- what stands in a record: after a length of four bytes, which begins at a place of a section, as
-- many bytes
unfoldable pub body_at : Place → ℕ → Option Place
body_at section at =
    option_and_then (λ size. first size.0 size.1) (fixed 4 u32_at (after at section))

-- the pointer to a personality routine, which is passed over: its encoding, and a number unless that
-- is FF (hexadecimal). An aligned one says nothing (DW_EH_PE_aligned).
abbrev pub routine : ℕ → Place → Option Place
routine encoding p =
    if encoding == 0xFF then Some p
    else (if encoding / 16 % 8 == 5 then None else passed (number encoding p))

-- the letter `P`: a personality routine
abbrev pub personality : Common → Place → Option (Common × Place)
personality c p =
    option_map (λ rest. (c, rest)) (option_and_then (λ r. routine r.0 r.1) (byte p))

-- the letter `R`: the encoding of pointers to code
abbrev pub code_encoding : Common → Place → Option (Common × Place)
code_encoding c p = option_map (λ r. (record c { code = r.0 }, r.1)) (byte p)

-- the letter `L`: that of pointers to tables
abbrev pub table_encoding : Common → Place → Option (Common × Place)
table_encoding c p = option_map (λ r. (record c { table = r.0 }, r.1)) (byte p)

-- what a letter of the augmentation says; `S`, `B` and `G` have no bytes
unfoldable pub letter : ℕ → Common → Place → Option (Common × Place)
letter l c p =
    if l == 0x52 then code_encoding c p
    else (if l == 0x4C then table_encoding c p
    else (if l == 0x50 then personality c p
    else (if l == 0x53 || l == 0x42 || l == 0x47 then Some (c, p) else None)))

-- what all letters say, in turn
abbrev pub letters : List ℕ → Common → Place → Option Common
letters [] c p = Some c
letters (l ∷ ls) c p = option_and_then (λ r. letters ls r.0 r.1) (letter l c p)

-- the letters, of which the first is `z`, up to a zero byte, and the place after that
abbrev pub letters_after_z : List ℕ → Option (List ℕ)
letters_after_z [] = None
letters_after_z (l ∷ ls) = if l == 0x7A then Some ls else None

unfoldable pub augmentation : Place → Option (List ℕ × Place)
augmentation p =
    option_and_then
    (λ text. option_map (λ ls. (ls, after (length text.0 + 1) p)) (letters_after_z text.0))
    (zero_ended p.bytes)

-- the register of the return address, which is passed over
abbrev pub register : ℕ → Place → Option Place
register version p = passed (if version == 1 then byte p else uleb128 p)

-- what stands between the letters and their bytes: the factors of code and of data, that register,
-- and the size of the letters' bytes
unfoldable pub factors : ℕ → Place → Option Place
factors version p =
    option_and_then (λ q. passed (uleb128 q))
    (option_and_then (register version)
    (option_and_then (λ q. passed (sleb128 q)) (passed (uleb128 p))))

-- without `R` code pointers are absolute; without `L` there are no tables
abbrev pub plain : Common
plain = record { code = 0; table = 0xFF }

-- the common record whose version begins at a place
unfoldable pub common_from : Place → Option Common
common_from p =
    option_and_then
    (λ version. if version.0 == 1 || version.0 == 3
    then option_and_then
    (λ text. option_and_then (letters text.0 plain) (factors version.0 text.1))
    (augmentation version.1)
    else None)
    (byte p)

-- the common record that begins at a place of a section: its link is 0
unfoldable pub common_at : Place → ℕ → Option Common
common_at section at =
    option_and_then
    (λ body. option_and_then (λ link. if link.0 == 0 then common_from link.1 else None)
    (fixed 4 u32_at body))
    (body_at section at)
