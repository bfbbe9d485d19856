-- The declared tables of small files, by computation.
use Rattle.byteorder.specs.Endian.{little_bytes}
use Rattle.std.proofs.Common.{◌≡◌, ℕ, List, ◌++◌, replicate, refl, Option, Some, None}
use Rattle.elf_image.specs.declared.declared.DeclaredTable.{DeclaredTable}
use Rattle.elf_image.specs.Number.{u16_at, u32_at, u64_at}
use Rattle.elf_image.specs.Sections.{section, sections}
use Rattle.elf_image.specs.DeclaredTables.{declared_tables, declared_at}

table : ℕ → ℕ → DeclaredTable
table jump count = record { jump = jump; base = 0x20000; add = 1; count = count; size = 4 }

record_of : ℕ → ℕ → List ℕ
record_of jump count = little_bytes 8 jump ++ little_bytes 8 0x20000 ++ little_bytes 8 1 ++ little_bytes 4 count ++ little_bytes 4 4

section_of : ℕ → ℕ → ℕ → List ℕ
section_of kind offset size = little_bytes 4 0 ++ little_bytes 4 kind ++ replicate 16 0 ++ little_bytes 8 offset ++ little_bytes 8 size ++ replicate 24 0

-- a header, records in two sections of these types, seven bytes between them, and the section headers
file : ℕ → ℕ → List ℕ
file first second =
    replicate 40 0 ++ little_bytes 8 199 ++ replicate 12 0 ++ little_bytes 2 2 ++ replicate 2 0
    ++ record_of 0x10000 1 ++ record_of 0x10004 2 ++ replicate 7 0 ++ record_of 0x10004 3 ++ record_of 0x10008 4
    ++ section_of first 64 71 ++ section_of second 135 64

Declares : ℕ → ℕ → ℕ → Option DeclaredTable → Type 0
unfolding u16_at u32_at u64_at section sections declared_tables declared_at file record_of section_of
Declares first second jump declared = declared_at (file first second) jump ≡ declared

-- the first record of a jump counts
both : (Declares 0x8CF60001 0x8CF60001 0x10000 (Some (table 0x10000 1))) × (Declares 0x8CF60001 0x8CF60001 0x10004 (Some (table 0x10004 2))) × (Declares 0x8CF60001 0x8CF60001 0x10008 (Some (table 0x10008 4))) × (Declares 0x8CF60001 0x8CF60001 0x10002 None)
unfolding Declares table
both = (refl, refl, refl, refl)

-- sections of other types declare nothing
other_types : (Declares 1 0x8CF60001 0x10004 (Some (table 0x10004 3))) × (Declares 1 0x8CF60002 0x10004 None) × (Declares 0x8CF60001 8 0x10008 None)
unfolding Declares table
other_types = (refl, refl, refl)
