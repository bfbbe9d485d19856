-- The text of the architecture in the attributes of a file (RISC-V ELF psABI, "Attributes"). What
-- is not as it should be has no text; it is no fault of the file.
use Rattle.std.specs.Prelude.{ℕ, zero, suc, ◌+◌, ◌*◌, ◌%◌, ◌==◌, ◌&&◌, nat_lt, nat_le, Bool, false}
use Rattle.std.specs.Prelude.{List, [], ◌∷◌, length, take, drop, slice_range, bytes_eq}
use Rattle.std.specs.Prelude.{codes, if◌then◌else◌}
use Rattle.std.specs.List.{find, position}
use Rattle.std.specs.Option.{option_map, option_and_then}
use Rattle.std.specs.declared.option.Option.{Option}
use Rattle.std.specs.declared.option.Option.TheVariants.{None, Some}
use Rattle.elf_image.specs.declared.section.Section.{Section}
use Rattle.elf_image.specs.Number.{u32_at}
use Rattle.elf_image.specs.Sections.{sections}
use Rattle.elf_image.specs.Symbols.{section_bytes}

-- a number at the front of some bytes, and how many bytes it takes
pub record Leb : Type 0 where
  pub value : ℕ
  pub size : ℕ

-- a number as ULEB128: seven bits a byte, the least significant first, up to the first byte below
-- 128 (DWARF 5, "Variable Length Data")
abbrev pub uleb128 : List ℕ → Option Leb
uleb128 [] = None
uleb128 (b ∷ bs) =
    if nat_lt b 128
    then Some (record { value = b; size = 1 })
    else option_map (λ high. record { value = b % 128 + 128 * high.value; size = high.size + 1 })
    (uleb128 bs)

-- a text at the front of some bytes, up to the first zero byte, and what follows that
abbrev pub zero_ended : List ℕ → Option (List ℕ × List ℕ)
zero_ended bytes =
    option_map (λ i. (take i bytes, drop (i + 1) bytes)) (position (λ b. b == 0) bytes)

-- a record at the front of some bytes: whether it is the one that is looked for, what stands in it,
-- and the bytes after it
pub record Record : Type 0 where
  pub is_wanted : Bool
  pub body : List ℕ
  pub rest : List ℕ

-- a subsection: its size, which counts itself, the name of its vendor, and its parts. That of the
-- vendor `riscv` is looked for.
abbrev pub subsection : List ℕ → Option Record
subsection bytes =
    let size = u32_at bytes 0 in
    if nat_le 4 size && nat_le size (length bytes)
    then option_map
    (λ vendor. record {
      is_wanted = bytes_eq vendor.0 (codes "riscv");
      body = vendor.1;
      rest = drop size bytes;
    })
    (zero_ended (slice_range bytes 4 size))
    else None

-- a part of a subsection: its tag, its size, which counts both, and its attributes. That of the
-- whole file, tag 1, is looked for.
abbrev pub part_of : List ℕ → Leb → Option Record
part_of bytes tag =
    let size = u32_at bytes tag.size in
    if nat_le (tag.size + 4) size && nat_le size (length bytes)
    then Some (record {
      is_wanted = tag.value == 1;
      body = slice_range bytes (tag.size + 4) size;
      rest = drop size bytes;
    })
    else None

abbrev pub part : List ℕ → Option Record
part bytes = option_and_then (part_of bytes) (uleb128 bytes)

-- an attribute: its tag and then, if that is even, a number, and else a text. The text of the
-- architecture, tag 5, is looked for.
abbrev pub attribute_of : List ℕ → Leb → Option Record
attribute_of bytes tag =
    let after = drop tag.size bytes in
    if tag.value % 2 == 0
    then option_map
    (λ number. record { is_wanted = false; body = []; rest = drop number.size after })
    (uleb128 after)
    else option_map
    (λ text. record { is_wanted = tag.value == 5; body = text.0; rest = text.1 })
    (zero_ended after)

abbrev pub attribute : List ℕ → Option Record
attribute bytes = option_and_then (attribute_of bytes) (uleb128 bytes)

-- what stands in the first record that is looked for, among the first n of those that stand one
-- after the other; none if one up to it is broken
abbrev pub first_wanted : (List ℕ → Option Record) → ℕ → List ℕ → Option (List ℕ)
first_wanted read zero bytes = None
first_wanted read (suc n) bytes =
    option_and_then (λ r. if r.is_wanted then Some r.body else first_wanted read n r.rest)
    (read bytes)

-- among all: each takes a byte at least
abbrev pub wanted : (List ℕ → Option Record) → List ℕ → Option (List ℕ)
wanted read bytes = first_wanted read (length bytes) bytes

-- the text in an attributes section, whose first byte is `A`
abbrev pub text_in : List ℕ → Option (List ℕ)
text_in [] = None
text_in (version ∷ bytes) =
    if version == 0x41
    then option_and_then (wanted attribute) (option_and_then (wanted part) (wanted subsection bytes))
    else None

-- sh_type is SHT_RISCV_ATTRIBUTES
abbrev pub is_attributes : Section → Bool
is_attributes s = s.kind == 0x70000003

-- the text of the architecture: the first attributes section decides
unfoldable pub architecture : List ℕ → Option (List ℕ)
architecture bytes =
    option_and_then (λ s. text_in (section_bytes bytes s)) (find is_attributes (sections bytes))
