-- The file that is made of given parts: this project's profile.
use Rattle.std.specs.Prelude.{ℕ, List, ◌++◌, length}
use Rattle.elf_maker.specs.declared.parts.Parts.{Parts}
use Rattle.elf_maker.specs.Fields.{padded}
use Rattle.elf_maker.specs.Header.{file_header}
use Rattle.elf_maker.specs.Symbols.{symbol_table, string_table}
use Rattle.elf_maker.specs.Sections.{headers_place, section_headers, section_table}

-- the file: the ELF header, the code, the read-only data, the symbol table, the string table and
-- the section headers
unfoldable pub made_file : Parts → List ℕ
made_file parts =
    file_header parts.entry (headers_place parts) (length (section_headers parts))
    ++ padded parts.code
    ++ padded parts.rodata
    ++ symbol_table parts.symbols
    ++ padded (string_table parts.symbols)
    ++ section_table parts
