-- The ELF header (System V ABI, "ELF Header").
use Rattle.std.specs.Prelude.{ℕ, List, [], ◌∷◌, ◌++◌, replicate}
use Rattle.elf_maker.specs.Fields.{halves, words, xwords}

-- e_ident: the magic number 7F 'E' 'L' 'F', ELFCLASS64, ELFDATA2LSB, EV_CURRENT and zero bytes
abbrev pub identification : List ℕ
identification = (0x7F ∷ 0x45 ∷ 0x4C ∷ 0x46 ∷ 2 ∷ 1 ∷ 1 ∷ []) ++ replicate 9 0

-- The Elf64_Ehdr of an executable (e_type ET_EXEC) for RISC-V (e_machine 243, RISC-V psABI) that
-- starts at `entry` and has no program header, and `count` section headers at the offset `table` of
-- the file. In order: e_ident; e_type, e_machine; e_version; e_entry, e_phoff, e_shoff; e_flags;
-- e_ehsize, e_phentsize, e_phnum, e_shentsize, e_shnum, e_shstrndx.
unfoldable pub file_header : ℕ → ℕ → ℕ → List ℕ
file_header entry table count =
    identification
    ++ halves (2 ∷ 243 ∷ [])
    ++ words (1 ∷ [])
    ++ xwords (entry ∷ 0 ∷ table ∷ [])
    ++ words (0 ∷ [])
    ++ halves (64 ∷ 0 ∷ 0 ∷ 64 ∷ count ∷ 0 ∷ [])
