-- What is wrong with a file, as twenty tests on its bytes. Each stands for itself; their order is
-- in `Faults`. The fields are those of the System V ABI (ELF-64); which values are wanted is this
-- project's profile. A sum here has no upper limit, so an offset plus a size never wraps.
use Rattle.std.specs.Prelude.{ℕ, ◌+◌, ◌-◌, ◌*◌, ◌^◌, ◌%◌, ◌==◌, ◌&&◌, ◌||◌, nat_lt, not, min, max}
use Rattle.std.specs.Prelude.{Bool, false, List, [], ◌∷◌, length, drop, slice_index}
use Rattle.std.specs.List.{list_any, filter}
use Rattle.std.specs.Option.{option_map_or}
use Rattle.elf_image.specs.declared.section.Section.{Section}
use Rattle.elf_image.specs.Header as header
use Rattle.elf_image.specs.Sections.{section, sections, is_null, is_nobits, is_string_table}
use Rattle.elf_image.specs.Sections.{is_allocated, is_code_section}
use Rattle.elf_image.specs.Code.{is_even, is_code}
use Rattle.elf_image.specs.Symbols.{Symbol, symbol_table, symbol_tables, seed_symbols_in}
use Rattle.elf_image.specs.Symbols.{strings_of}

-- `size` bytes from `offset` on pass the end of a file of `len` bytes
abbrev pub leaves_file : ℕ → ℕ → ℕ → Bool
leaves_file len offset size = nat_lt len (offset + size)

-- 1. more than 64 MiB
unfoldable pub is_too_large : List ℕ → Bool
is_too_large bytes = nat_lt 67108864 (length bytes)

-- 2. shorter than an ELF header
unfoldable pub is_short : List ℕ → Bool
is_short bytes = nat_lt (length bytes) 64

-- 3. the magic number 7F 'E' 'L' 'F' is not there
unfoldable pub has_wrong_magic : List ℕ → Bool
has_wrong_magic bytes =
    not (slice_index bytes 0 == 0x7F && slice_index bytes 1 == 0x45 && slice_index bytes 2 == 0x4C
    && slice_index bytes 3 == 0x46)

-- 4. no ELFCLASS64
unfoldable pub has_wrong_class : List ℕ → Bool
has_wrong_class bytes = not (header.file_class bytes == 2)

-- 5. no ELFDATA2LSB
unfoldable pub has_wrong_data : List ℕ → Bool
has_wrong_data bytes = not (header.data_encoding bytes == 1)

-- 6. no EV_CURRENT
unfoldable pub has_wrong_version : List ℕ → Bool
has_wrong_version bytes =
    not (header.ident_version bytes == 1) || not (header.file_version bytes == 1)

-- 7. no EM_RISCV (RISC-V psABI, "ELF Object Files")
unfoldable pub has_wrong_machine : List ℕ → Bool
has_wrong_machine bytes = not (header.machine bytes == 243)

-- 8. neither ET_EXEC nor ET_DYN, the type of a position-independent executable
unfoldable pub has_wrong_type : List ℕ → Bool
has_wrong_type bytes = not (header.file_type bytes == 2 || header.file_type bytes == 3)

-- 9. the header does not have the size of an Elf64_Ehdr
unfoldable pub has_wrong_header_size : List ℕ → Bool
has_wrong_header_size bytes = not (header.header_size bytes == 64)

-- 10. there are program headers, and they are no Elf64_Phdrs or their table leaves the file
unfoldable pub has_bad_program_table : List ℕ → Bool
has_bad_program_table bytes =
    nat_lt 0 (header.program_header_count bytes)
    && (not (header.program_header_size bytes == 56)
    || leaves_file (length bytes) (header.program_table_offset bytes)
    (56 * header.program_header_count bytes))

-- 11. there is a program header PT_INTERP
unfoldable pub has_interpreter : List ℕ → Bool
has_interpreter bytes = list_any (λ kind. kind == 3) (header.program_header_types bytes)

-- 12. there is no section
unfoldable pub has_no_sections : List ℕ → Bool
has_no_sections bytes = header.section_count bytes == 0

-- 13. the section headers are no Elf64_Shdrs, or their table leaves the file
unfoldable pub has_bad_section_table : List ℕ → Bool
has_bad_section_table bytes =
    not (header.section_header_size bytes == 64)
    || leaves_file (length bytes) (header.section_table_offset bytes)
    (64 * header.section_count bytes)

-- 14. a section that has bytes in the file (it is neither SHT_NULL nor SHT_NOBITS) leaves the file
abbrev pub is_out_of_file : ℕ → Section → Bool
is_out_of_file len s = not (is_null s) && not (is_nobits s) && leaves_file len s.offset s.size

unfoldable pub has_section_out_of_file : List ℕ → Bool
has_section_out_of_file bytes = list_any (is_out_of_file (length bytes)) (sections bytes)

-- 15. a section with SHF_ALLOC passes the last 64-bit address
abbrev pub is_wrapping : Section → Bool
is_wrapping s = is_allocated s && nat_lt (2 ^ 64 - 1) (s.address + s.size)

unfoldable pub has_wrapping_section : List ℕ → Bool
has_wrapping_section bytes = list_any is_wrapping (sections bytes)

-- 16. a code section stands at an odd address
abbrev pub is_odd_code : Section → Bool
is_odd_code s = is_code_section s && not (is_even s.address)

unfoldable pub has_odd_code : List ℕ → Bool
has_odd_code bytes = list_any is_odd_code (sections bytes)

-- 17. two code sections share an address: the greater of their starts is below the lesser of their
-- ends
abbrev pub shares_address : Section → Section → Bool
shares_address s t =
    nat_lt (max s.address t.address) (min (s.address + s.size) (t.address + t.size))

-- some element and a later one stand in R
abbrev pub any_pair : (Section → Section → Bool) → List Section → Bool
any_pair R [] = false
any_pair R (s ∷ ss) = list_any (R s) ss || any_pair R ss

unfoldable pub has_code_overlap : List ℕ → Bool
has_code_overlap bytes = any_pair shares_address (filter is_code_section (sections bytes))

-- 18. the entry is no code address
unfoldable pub has_entry_outside_code : List ℕ → Bool
has_entry_outside_code bytes = not (is_code bytes (header.entry bytes))

-- 19. there are two symbol tables, or one whose entries are no Elf64_Syms, or whose size is no
-- multiple of theirs, or whose sh_link is not the index of a string table
abbrev pub is_bad_symbol_table : List ℕ → Section → Bool
is_bad_symbol_table bytes table =
    not (table.entry_size == 24) || not (table.size % 24 == 0)
    || not (nat_lt table.link (header.section_count bytes)
    && is_string_table (section bytes table.link))

unfoldable pub has_bad_symbol_table : List ℕ → Bool
has_bad_symbol_table bytes =
    nat_lt 1 (length (symbol_tables bytes))
    || list_any (is_bad_symbol_table bytes) (symbol_tables bytes)

-- 20. the name of a seed symbol begins past the end of the string table, or no zero byte ends it
-- there
abbrev pub is_bad_name : List ℕ → ℕ → Symbol → Bool
is_bad_name strings size s =
    not (nat_lt s.name size) || not (list_any (λ b. b == 0) (drop s.name strings))

abbrev pub has_bad_name_in : List ℕ → Section → Bool
has_bad_name_in bytes table =
    list_any (is_bad_name (strings_of bytes table) (section bytes table.link).size)
    (seed_symbols_in bytes table)

unfoldable pub has_bad_symbol_name : List ℕ → Bool
has_bad_symbol_name bytes = option_map_or (has_bad_name_in bytes) (symbol_table bytes) false
