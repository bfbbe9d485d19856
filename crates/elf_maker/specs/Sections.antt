-- The section headers of a made file (System V ABI, "Section Header"), and where its parts stand.
use Rattle.std.specs.Prelude.{ℕ, ◌+◌, List, [], ◌∷◌, ◌++◌, length, if◌then◌else◌}
use Rattle.std.specs.List.{flat_map}
use Rattle.elf_maker.specs.declared.parts.Parts.{Parts}
use Rattle.elf_maker.specs.declared.section.SectionHeader.{SectionHeader}
use Rattle.elf_maker.specs.Fields.{words, xwords, padded}
use Rattle.elf_maker.specs.Symbols.{has_symbols, symbol_table, string_table}

-- An Elf64_Shdr without a name. In order: sh_name, sh_type; sh_flags, sh_addr, sh_offset, sh_size;
-- sh_link, sh_info; sh_addralign, sh_entsize.
unfoldable pub section_bytes : SectionHeader → List ℕ
section_bytes s =
    words (0 ∷ s.kind ∷ [])
    ++ xwords (s.flags ∷ s.address ∷ s.offset ∷ s.size ∷ [])
    ++ words (s.link ∷ s.info ∷ [])
    ++ xwords (s.alignment ∷ s.entry_size ∷ [])

-- where the parts stand in the file: after the header of 64 bytes the code, the read-only data, the
-- symbol table, the string table and the section headers
abbrev pub code_place : ℕ
code_place = 64

unfoldable pub rodata_place : Parts → ℕ
rodata_place parts = code_place + length (padded parts.code)

unfoldable pub symbols_place : Parts → ℕ
symbols_place parts = rodata_place parts + length (padded parts.rodata)

unfoldable pub strings_place : Parts → ℕ
strings_place parts = symbols_place parts + length (symbol_table parts.symbols)

unfoldable pub headers_place : Parts → ℕ
headers_place parts = strings_place parts + length (padded (string_table parts.symbols))

-- section 0 (SHT_NULL)
abbrev pub null_header : SectionHeader
null_header = record {
  kind = 0;
  flags = 0;
  address = 0;
  offset = 0;
  size = 0;
  link = 0;
  info = 0;
  alignment = 0;
  entry_size = 0;
}

-- section 1, the code: SHT_PROGBITS with SHF_ALLOC and SHF_EXECINSTR
abbrev pub code_header : Parts → SectionHeader
code_header parts = record {
  kind = 1;
  flags = 6;
  address = parts.code_at;
  offset = code_place;
  size = length parts.code;
  link = 0;
  info = 0;
  alignment = 2;
  entry_size = 0;
}

-- section 2, the read-only data: SHT_PROGBITS with SHF_ALLOC
abbrev pub rodata_header : Parts → SectionHeader
rodata_header parts = record {
  kind = 1;
  flags = 2;
  address = parts.rodata_at;
  offset = rodata_place parts;
  size = length parts.rodata;
  link = 0;
  info = 0;
  alignment = 4;
  entry_size = 0;
}

-- section 3, the symbol table (SHT_SYMTAB), whose strings are section 4 and whose first global
-- symbol is symbol 1
abbrev pub symbols_header : Parts → SectionHeader
symbols_header parts = record {
  kind = 2;
  flags = 0;
  address = 0;
  offset = symbols_place parts;
  size = length (symbol_table parts.symbols);
  link = 4;
  info = 1;
  alignment = 8;
  entry_size = 24;
}

-- section 4, the string table (SHT_STRTAB)
abbrev pub strings_header : Parts → SectionHeader
strings_header parts = record {
  kind = 3;
  flags = 0;
  address = 0;
  offset = strings_place parts;
  size = length (string_table parts.symbols);
  link = 0;
  info = 0;
  alignment = 1;
  entry_size = 0;
}

-- the headers of all sections
unfoldable pub symbol_headers : Parts → List SectionHeader
symbol_headers parts =
    if has_symbols parts.symbols then symbols_header parts ∷ strings_header parts ∷ [] else []

unfoldable pub section_headers : Parts → List SectionHeader
section_headers parts = null_header ∷ code_header parts ∷ rodata_header parts ∷ symbol_headers parts

-- the section header table
unfoldable pub section_table : Parts → List ℕ
section_table parts = flat_map section_bytes (section_headers parts)
