-- Unsigned numbers of a file whose data encoding is ELFDATA2LSB: the least significant byte comes
-- first (System V ABI, "Data Encoding"). Past the end of the file a byte counts as zero.
use Rattle.std.specs.Prelude.{ℕ, List, drop}
use Rattle.byteorder.specs.Endian.{little_number}

-- the number in the two bytes at an offset: an Elf64_Half
unfoldable pub u16_at : List ℕ → ℕ → ℕ
u16_at bytes at = little_number 2 (drop at bytes)

-- the number in the four bytes at an offset: an Elf64_Word
unfoldable pub u32_at : List ℕ → ℕ → ℕ
u32_at bytes at = little_number 4 (drop at bytes)

-- the number in the eight bytes at an offset: an Elf64_Xword, Elf64_Addr or Elf64_Off
unfoldable pub u64_at : List ℕ → ℕ → ℕ
u64_at bytes at = little_number 8 (drop at bytes)
