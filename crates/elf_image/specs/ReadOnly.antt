-- Bytes that the running program cannot write: this project's profile.
use Rattle.std.specs.Prelude.{◌≡◌, ℕ, ◌+◌, ◌-◌, ◌≤◌, ◌&&◌, Bool, List, length, take, drop, Some}
use Rattle.std.specs.List.{find, list_any}
use Rattle.std.specs.Option.{option_map}
use Rattle.std.specs.declared.option.Option.{Option}
use Rattle.elf_image.specs.declared.section.Section.{Section}
use Rattle.elf_image.specs.declared.section.Span.{Span}
use Rattle.elf_image.specs.Number.{u32_at}
use Rattle.elf_image.specs.Sections.{sections, is_read_only_section, holds_bytes, file_offset}

-- a read-only section that has all n bytes from address a on
abbrev pub is_read_only_section_of : ℕ → ℕ → Section → Bool
is_read_only_section_of a n s = is_read_only_section s && holds_bytes a n s

-- the byte at a lies in a read-only section
unfoldable pub is_read_only : List ℕ → ℕ → Bool
is_read_only bytes a = list_any (is_read_only_section_of a 1) (sections bytes)

-- the first read-only section, in table order, that has all four bytes at a
unfoldable pub data_section_of : List ℕ → ℕ → Option Section
data_section_of bytes a = find (is_read_only_section_of a 4) (sections bytes)

-- the word that those four bytes spell
abbrev pub data_word : List ℕ → ℕ → Option ℕ
data_word bytes a = option_map (λ s. u32_at bytes (file_offset s a)) (data_section_of bytes a)

-- the first read-only section, in table order, that has the byte at a
unfoldable pub byte_section_of : List ℕ → ℕ → Option Section
byte_section_of bytes a = find (is_read_only_section_of a 1) (sections bytes)

-- the bytes from a on up to the end of that section
abbrev pub bytes_from : List ℕ → ℕ → Option (List ℕ)
bytes_from bytes a =
    option_map (λ s. take (s.size - (a - s.address)) (drop (file_offset s a) bytes))
    (byte_section_of bytes a)

-- each word of some bytes is the data word at its address, where their first is at a
abbrev pub AreWordsFrom : List ℕ → ℕ → List ℕ → Type 0
AreWordsFrom bytes a part =
    (i : ℕ) → i + 4 ≤ length part → data_word bytes (a + i) ≡ Some (u32_at part i)

-- the bytes of a span of the file
abbrev pub span_bytes : List ℕ → Span → List ℕ
span_bytes bytes span = take span.len (drop span.at bytes)
