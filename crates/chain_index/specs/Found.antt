-- What is kept of an image, beside it: how far the chains of its code reach.
use Rattle.std.specs.Prelude.{◌≡◌, ℕ, ◌+◌, ◌*◌, ◌/◌, ◌<◌, ◌≤◌, ◌^◌, true, IfSome, Some, [], ◌∷◌}
use Rattle.std.specs.Prelude.{List, length, get_or, All, Contains}
use Rattle.elf_image.specs.declared.section.Section.{Section}
use Rattle.elf_image.specs.Sections.{holds_bytes}
use Rattle.elf_image.specs.Code.{is_even, is_code, code_section_of}
use Rattle.elf_image.specs.Faults.{IsImage}
use Rattle.chain_index.specs.declared.lookup.SectionReaches.{SectionReaches}
use Rattle.chain_index.specs.Chain.{IsChainEnd}
use Rattle.chain_index.specs.Numbers.{codes_below, code_count}

-- A code section of an accepted file that holds a halfword: its bytes are in the file and in
-- memory, and it is that of each code address in it.
pub record IsCodeOf (bytes : List ℕ) (s : Section) : Type 0 where
  pub image : IsImage bytes
  pub some : 2 ≤ s.size
  pub even : is_even s.address ≡ true
  pub in_file : s.offset + s.size ≤ length bytes
  pub small : length bytes ≤ 67108864
  pub in_memory : s.address + s.size < 2 ^ 64
  pub whole : (a : ℕ) → is_even a ≡ true → holds_bytes a 2 s ≡ true
      → code_section_of bytes a ≡ Some s

-- Of each halfword of a code section, from its address on, how many halfwords the end of its chain
-- lies ahead.
pub record AreReaches (bytes : List ℕ) (start : ℕ) (reaches : List ℕ) : Type 0 where
  pub some : 0 < length reaches
  pub code : is_code bytes start ≡ true
  pub ends : (i d : ℕ) → i < length reaches
      → IsChainEnd bytes (start + 2 * i) (start + 2 * i + 2 * get_or reaches i d)

-- What is kept of a code section: its place, how many code addresses there are from its first
-- address on, and the reaches of all its halfwords.
pub record IsSectionReaches (bytes : List ℕ) (kept : SectionReaches) : Type 0 where
  pub section : Section
  pub of : IsCodeOf bytes section
  pub address : kept.address ≡ section.address
  pub offset : kept.offset ≡ section.offset
  pub size : length kept.reaches.items ≡ section.size / 2
  pub counted : codes_below bytes kept.address + kept.from ≡ code_count bytes
  pub reaches : AreReaches bytes kept.address kept.reaches.items

-- The addresses of the sections fall.
abbrev pub AreFalling : List SectionReaches → Type 0
AreFalling found =
    (i j : ℕ) (d : SectionReaches) → i ≤ j → j < length found
    → (get_or found j d).address ≤ (get_or found i d).address

-- One of them begins at an address.
abbrev pub BeginsAt : List SectionReaches → ℕ → Type 0
BeginsAt found a = (kept : SectionReaches) × Contains found kept × (kept.address ≡ a)

-- What the last of them counts; count, if there is none.
abbrev pub last_count : ℕ → List SectionReaches → ℕ
last_count count [] = count
last_count count (kept ∷ more) = last_count kept.from more

-- These are the reaches of the chains of the image with these bytes, which an index of it keeps.
-- Each item is of one code section, from the highest address down. The section of each code address
-- is among them.
pub record AreChainEndsOf (bytes : List ℕ) (found : List SectionReaches) : Type 0 where
  pub right : All (IsSectionReaches bytes) found
  pub falling : AreFalling found
  pub whole : (a : ℕ) → IfSome (code_section_of bytes a) (λ s. BeginsAt found s.address)
  pub counted : last_count 0 found ≡ code_count bytes
