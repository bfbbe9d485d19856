-- What the parse prepares of a file. No public clause names what stands here.
use Rattle.std.specs.Prelude.{◌≡◌, ℕ, ◌<◌, ◌&&◌, Bool, List}
use Rattle.std.specs.List.{find}
use Rattle.elf_image.specs.declared.section.Section.{Section}
use Rattle.elf_image.specs.declared.layout.Layout.{Layout}
use Rattle.elf_image.specs.Sections.{sections, is_code_section, is_read_only_section, holds_bytes}
use Rattle.elf_image.specs.Architecture.{extensions_of}
use Rattle.elf_image.specs.DeclaredTables.{declared_tables}
use Rattle.elf_image.specs.Inner.Declared.{IsByJump}

-- what is found in xs is the first of all sections that pass the test and have the bytes
abbrev pub FindsAmong : (Section → Bool) → List Section → List Section → Type 0
FindsAmong test xs all =
    (a n : ℕ) → 0 < n → find (holds_bytes a n) xs ≡ find (λ s. test s && holds_bytes a n s) all

-- the sections of a file, those of code and of read-only data, to be searched, and what others say
pub record IsLayoutOf (bytes : List ℕ) (layout : Layout) : Type 0 where
  pub headers : layout.sections.items ≡ sections bytes
  pub code : FindsAmong is_code_section layout.code.sections.items (sections bytes)
  pub read_only : FindsAmong is_read_only_section layout.read_only.sections.items (sections bytes)
  pub declared : IsByJump (declared_tables bytes) layout.declared.items
  pub extensions : layout.extensions ≡ extensions_of bytes
