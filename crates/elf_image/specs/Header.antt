-- The fields of the ELF header, an Elf64_Ehdr at offset 0 of the file (System V ABI, "ELF Header"),
-- and the types of its program headers (System V ABI, "Program Header").
use Rattle.std.specs.Prelude.{ℕ, ◌+◌, ◌*◌, List, map, slice_index}
use Rattle.std.specs.List.{range_with_len}
use Rattle.elf_image.specs.Number.{u16_at, u32_at, u64_at}

-- e_ident[EI_CLASS]: 2 is ELFCLASS64
abbrev pub file_class : List ℕ → ℕ
file_class bytes = slice_index bytes 4

-- e_ident[EI_DATA]: 1 is ELFDATA2LSB
abbrev pub data_encoding : List ℕ → ℕ
data_encoding bytes = slice_index bytes 5

-- e_ident[EI_VERSION]: 1 is EV_CURRENT
abbrev pub ident_version : List ℕ → ℕ
ident_version bytes = slice_index bytes 6

-- e_type: 2 is ET_EXEC, 3 is ET_DYN
abbrev pub file_type : List ℕ → ℕ
file_type bytes = u16_at bytes 16

-- e_machine: 243 is EM_RISCV
abbrev pub machine : List ℕ → ℕ
machine bytes = u16_at bytes 18

-- e_version: 1 is EV_CURRENT
abbrev pub file_version : List ℕ → ℕ
file_version bytes = u32_at bytes 20

-- e_entry: the address where the program starts
abbrev pub entry : List ℕ → ℕ
entry bytes = u64_at bytes 24

-- e_phoff, e_phentsize, e_phnum: where the program header table stands, the size of a header, and
-- their number
abbrev pub program_table_offset : List ℕ → ℕ
program_table_offset bytes = u64_at bytes 32

abbrev pub program_header_size : List ℕ → ℕ
program_header_size bytes = u16_at bytes 54

abbrev pub program_header_count : List ℕ → ℕ
program_header_count bytes = u16_at bytes 56

-- e_shoff, e_shentsize, e_shnum: the same of the section header table
abbrev pub section_table_offset : List ℕ → ℕ
section_table_offset bytes = u64_at bytes 40

abbrev pub section_header_size : List ℕ → ℕ
section_header_size bytes = u16_at bytes 58

abbrev pub section_count : List ℕ → ℕ
section_count bytes = u16_at bytes 60

-- e_shstrndx: the index of the section with the names of all sections
abbrev pub names_index : List ℕ → ℕ
names_index bytes = u16_at bytes 62

-- e_ehsize: the size of the ELF header
abbrev pub header_size : List ℕ → ℕ
header_size bytes = u16_at bytes 52

-- p_type of the program header at an index: 3 is PT_INTERP
abbrev pub program_header_type : List ℕ → ℕ → ℕ
program_header_type bytes i = u32_at bytes (program_table_offset bytes + 56 * i)

-- p_type of each program header, in table order
unfoldable pub program_header_types : List ℕ → List ℕ
program_header_types bytes =
    map (program_header_type bytes) (range_with_len 0 (program_header_count bytes))
