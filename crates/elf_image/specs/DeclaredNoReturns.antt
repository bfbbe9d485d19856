-- The functions that a file declares not to return, in sections of a type of this project's own:
-- this project's profile.
use Rattle.std.specs.Prelude.{ℕ, ◌+◌, ◌*◌, ◌/◌, ◌==◌, Bool, List, map}
use Rattle.std.specs.List.{filter, flat_map, range_with_len}
use Rattle.elf_image.specs.declared.section.Section.{Section}
use Rattle.elf_image.specs.Number.{u64_at}
use Rattle.elf_image.specs.Sections.{sections}

-- sh_type is 8CF60002 (hexadecimal)
abbrev pub is_declaring_no_returns : Section → Bool
is_declaring_no_returns s = s.kind == 0x8CF60002

-- the records of a section, of 8 bytes each: the address of a function
abbrev pub no_returns_in : List ℕ → Section → List ℕ
no_returns_in bytes s = map (λ i. u64_at bytes (s.offset + 8 * i)) (range_with_len 0 (s.size / 8))

-- all records, section after section in table order
unfoldable pub declared_no_returns : List ℕ → List ℕ
declared_no_returns bytes =
    flat_map (no_returns_in bytes) (filter is_declaring_no_returns (sections bytes))
