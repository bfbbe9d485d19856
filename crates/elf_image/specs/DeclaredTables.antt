-- The jump tables that a file declares, in sections of a type of this project's own, of those that
-- ELF leaves to programs: this project's profile.
use Rattle.std.specs.Prelude.{ℕ, ◌+◌, ◌*◌, ◌/◌, ◌==◌, Bool, List, map}
use Rattle.std.specs.List.{find, filter, flat_map, range_with_len}
use Rattle.std.specs.declared.option.Option.{Option}
use Rattle.elf_image.specs.declared.section.Section.{Section}
use Rattle.elf_image.specs.declared.declared.DeclaredTable.{DeclaredTable}
use Rattle.elf_image.specs.Number.{u32_at, u64_at}
use Rattle.elf_image.specs.Sections.{sections}

-- sh_type is 8CF60001 (hexadecimal)
abbrev pub is_declaring : Section → Bool
is_declaring s = s.kind == 0x8CF60001

-- the record at an offset of the file
abbrev pub declared_table : List ℕ → ℕ → DeclaredTable
declared_table bytes at = record {
  jump = u64_at bytes at;
  base = u64_at bytes (at + 8);
  add = u64_at bytes (at + 16);
  count = u32_at bytes (at + 24);
  size = u32_at bytes (at + 28);
}

-- the records of a section, of 32 bytes each
abbrev pub declared_in : List ℕ → Section → List DeclaredTable
declared_in bytes s =
    map (λ i. declared_table bytes (s.offset + 32 * i)) (range_with_len 0 (s.size / 32))

-- all records, section after section in table order
unfoldable pub declared_tables : List ℕ → List DeclaredTable
declared_tables bytes = flat_map (declared_in bytes) (filter is_declaring (sections bytes))

-- the record of a jump: the first that names its address
unfoldable pub declared_at : List ℕ → ℕ → Option DeclaredTable
declared_at bytes j = find (λ t. t.jump == j) (declared_tables bytes)
