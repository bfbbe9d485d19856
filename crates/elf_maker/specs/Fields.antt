-- Fields of a file whose data encoding is ELFDATA2LSB: the least significant byte comes first
-- (System V ABI, "Data Encoding").
use Rattle.std.specs.Prelude.{ℕ, ◌-◌, ◌%◌, List, ◌++◌, length, replicate}
use Rattle.std.specs.List.{flat_map}
use Rattle.byteorder.specs.Endian.{little_bytes}

-- fields of type Elf64_Half, one after the other: two bytes each
unfoldable pub halves : List ℕ → List ℕ
halves fields = flat_map (little_bytes 2) fields

-- fields of type Elf64_Word: four bytes each
unfoldable pub words : List ℕ → List ℕ
words fields = flat_map (little_bytes 4) fields

-- fields of type Elf64_Xword, Elf64_Addr or Elf64_Off: eight bytes each
unfoldable pub xwords : List ℕ → List ℕ
xwords fields = flat_map (little_bytes 8) fields

-- how many bytes are missing to a multiple of eight
abbrev pub padding : ℕ → ℕ
padding len = (8 - len % 8) % 8

-- bytes, and zero bytes up to a multiple of eight: this project's profile
unfoldable pub padded : List ℕ → List ℕ
padded bytes = bytes ++ replicate (padding (length bytes)) 0
