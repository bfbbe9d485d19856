-- The section headers of a file, in table order (System V ABI, "Section Header").
use Rattle.std.specs.Prelude.{ℕ, ◌+◌, ◌-◌, ◌*◌, Bool, not, ◌&&◌, ◌==◌, nat_eq, nat_lt, nat_le}
use Rattle.std.specs.Prelude.{List, [], map, take, drop, bit_and, if◌then◌else◌}
use Rattle.std.specs.List.{range_with_len, starts_with}
use Rattle.elf_image.specs.declared.section.Section.{Section}
use Rattle.elf_image.specs.Number.{u32_at, u64_at}
use Rattle.elf_image.specs.Header.{section_table_offset, section_count, names_index}

-- the Elf64_Shdr at an offset of the file: sh_name, sh_type, sh_flags, sh_addr, sh_offset, sh_size,
-- sh_link and sh_entsize
abbrev pub section_header : List ℕ → ℕ → Section
section_header bytes at = record {
  name = u32_at bytes at;
  kind = u32_at bytes (at + 4);
  flags = u64_at bytes (at + 8);
  address = u64_at bytes (at + 16);
  offset = u64_at bytes (at + 24);
  size = u64_at bytes (at + 32);
  link = u32_at bytes (at + 40);
  entry_size = u64_at bytes (at + 56);
}

-- the section at an index of the table, whose entries have 64 bytes each
unfoldable pub section : List ℕ → ℕ → Section
section bytes i = section_header bytes (section_table_offset bytes + 64 * i)

-- all sections, from index 0 on
unfoldable pub sections : List ℕ → List Section
sections bytes = map (section bytes) (range_with_len 0 (section_count bytes))

-- sh_type is SHT_NULL, SHT_PROGBITS, SHT_SYMTAB, SHT_STRTAB or SHT_NOBITS
abbrev pub is_null : Section → Bool
is_null s = s.kind == 0

abbrev pub is_progbits : Section → Bool
is_progbits s = s.kind == 1

abbrev pub is_symbol_table : Section → Bool
is_symbol_table s = s.kind == 2

abbrev pub is_string_table : Section → Bool
is_string_table s = s.kind == 3

abbrev pub is_nobits : Section → Bool
is_nobits s = s.kind == 8

-- the names of the sections: the bytes of the section with the index e_shstrndx, which is of type
-- SHT_STRTAB; none if it is not
unfoldable pub section_names : List ℕ → List ℕ
section_names bytes =
    let names = section bytes (names_index bytes) in
    if nat_lt (names_index bytes) (section_count bytes) && is_string_table names
    then take names.size (drop names.offset bytes) else []

-- what stands at the name of a section, sh_name, begins with a text. With a zero byte at its end the
-- text is the name (System V ABI, "String Table").
unfoldable pub name_begins : List ℕ → List ℕ → Section → Bool
name_begins bytes text s = starts_with nat_eq (drop s.name (section_names bytes)) text

-- sh_flags has SHF_WRITE, SHF_ALLOC or SHF_EXECINSTR
abbrev pub is_writable : Section → Bool
is_writable s = not (bit_and s.flags 1 == 0)

abbrev pub is_allocated : Section → Bool
is_allocated s = not (bit_and s.flags 2 == 0)

abbrev pub is_executable : Section → Bool
is_executable s = not (bit_and s.flags 4 == 0)

-- machine code of the program, and its data that cannot be written: this project's profile.
-- A section of code that cannot be written is both.
abbrev pub is_code_section : Section → Bool
is_code_section s = is_progbits s && is_allocated s && is_executable s

abbrev pub is_read_only_section : Section → Bool
is_read_only_section s = is_progbits s && is_allocated s && not (is_writable s)

-- the n bytes from address a on all lie in the section
abbrev pub holds_bytes : ℕ → ℕ → Section → Bool
holds_bytes a n s = nat_le s.address a && nat_le (a + n) (s.address + s.size)

-- where the byte at address a of the section stands in the file
abbrev pub file_offset : Section → ℕ → ℕ
file_offset s a = s.offset + (a - s.address)
