-- The symbols of a file and their names (System V ABI, "Symbol Table" and "String Table").
use Rattle.std.specs.Prelude.{ℕ, ◌+◌, ◌*◌, ◌/◌, ◌%◌, ◌==◌, ◌&&◌, nat_lt, not, Bool, List, [], map}
use Rattle.std.specs.Prelude.{take, drop, take_while, slice_index}
use Rattle.std.specs.List.{range_with_len, find, filter}
use Rattle.std.specs.Option.{option_map_or}
use Rattle.std.specs.declared.option.Option.{Option}
use Rattle.elf_image.specs.declared.section.Section.{Section}
use Rattle.elf_image.specs.Number.{u16_at, u32_at, u64_at}
use Rattle.elf_image.specs.Header.{section_count}
use Rattle.elf_image.specs.Sections.{section, sections, is_symbol_table, is_code_section}
use Rattle.elf_image.specs.Sections.{holds_bytes}
use Rattle.elf_image.specs.Code.{is_even}

-- an Elf64_Sym: st_name, st_info, st_shndx and st_value
pub record Symbol : Type 0 where
  pub name : ℕ
  pub info : ℕ
  pub section : ℕ
  pub value : ℕ

-- the symbol at an offset of the file
unfoldable pub symbol_at : List ℕ → ℕ → Symbol
symbol_at bytes at = record {
  name = u32_at bytes at;
  info = slice_index bytes (at + 4);
  section = u16_at bytes (at + 6);
  value = u64_at bytes (at + 8);
}

-- the sections of type SHT_SYMTAB, in table order
unfoldable pub symbol_tables : List ℕ → List Section
symbol_tables bytes = filter is_symbol_table (sections bytes)

-- the symbol table, if the file has one
abbrev pub symbol_table : List ℕ → Option Section
symbol_table bytes = find is_symbol_table (sections bytes)

-- the symbols of a table, whose entries have 24 bytes each, from index 0 on
abbrev pub symbols_in : List ℕ → Section → List Symbol
symbols_in bytes table =
    map (λ i. symbol_at bytes (table.offset + 24 * i)) (range_with_len 0 (table.size / 24))

-- the bytes of a section that stand in the file
abbrev pub section_bytes : List ℕ → Section → List ℕ
section_bytes bytes s = take s.size (drop s.offset bytes)

-- the string table of a symbol table, named by sh_link
abbrev pub strings_of : List ℕ → Section → List ℕ
strings_of bytes table = section_bytes bytes (section bytes table.link)

-- what stands in a string table from an offset on, up to the first zero byte
abbrev pub string_at : List ℕ → ℕ → List ℕ
string_at strings at = take_while (λ b. not (b == 0)) (drop at strings)

-- the index of a code section: neither SHN_UNDEF nor reserved (SHN_LORESERVE is FF00 in
-- hexadecimal)
abbrev pub is_code_section_index : List ℕ → ℕ → Bool
is_code_section_index bytes i =
    nat_lt 0 i
    && nat_lt i 0xFF00
    && nat_lt i (section_count bytes)
    && is_code_section (section bytes i)

-- the symbol of a function (STT_FUNC, 2, in the low four bits of st_info) that stands at a code
-- address of the code section which it names
unfoldable pub is_seed_symbol : List ℕ → Symbol → Bool
is_seed_symbol bytes s =
    s.info % 16 == 2
    && is_code_section_index bytes s.section
    && is_even s.value
    && holds_bytes s.value 2 (section bytes s.section)

-- the seed symbols of a table, in its order
unfoldable pub seed_symbols_in : List ℕ → Section → List Symbol
seed_symbols_in bytes table = filter (is_seed_symbol bytes) (symbols_in bytes table)

-- the seed symbols of the file, none if it has no symbol table
abbrev pub seed_symbols : List ℕ → List Symbol
seed_symbols bytes = option_map_or (seed_symbols_in bytes) (symbol_table bytes) []
