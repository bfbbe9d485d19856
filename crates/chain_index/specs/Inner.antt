-- Words that no public clause cites: what the passes that make an index know, and a look-up.
use Rattle.std.specs.Prelude.{◌≡◌, ℕ, ◌+◌, ◌-◌, ◌*◌, ◌/◌, ◌%◌, ◌^◌, ◌<◌, ◌≤◌, ◌⊎◌, ◌==◌}
use Rattle.std.specs.Prelude.{nat_le, true, false}
use Rattle.std.specs.Prelude.{List, length, get_or, All, Contains, Option, Some, None, IfSome}
use Rattle.std.specs.Prelude.{if◌then◌else◌}
use Rattle.std.specs.Option.{option_map_or}
use Rattle.elf_image.specs.declared.section.Section.{Section}
use Rattle.elf_image.specs.Header.{section_count}
use Rattle.elf_image.specs.Sections.{section, is_code_section}
use Rattle.elf_image.specs.Number.{u16_at, u32_at}
use Rattle.elf_image.specs.FaultTests.{any_pair, shares_address}
use Rattle.elf_image.specs.Faults.{IsImage}
use Rattle.elf_image.specs.Code.{is_code, half_at, word_at}
use Rattle.chain_index.specs.declared.lookup.SectionReaches.{SectionReaches}
use Rattle.chain_index.specs.Chain.{IsChainEnd}
use Rattle.chain_index.specs.Found.{IsCodeOf, IsSectionReaches, BeginsAt}
use Rattle.chain_index.specs.Numbers.{codes_below, code_count}

-- Some of the code sections that hold a halfword, and each of those among the first n sections. No
-- two share an address.
pub record AreFirst (bytes : List ℕ) (n : ℕ) (sections : List Section) : Type 0 where
  pub code : All (IsCodeOf bytes) sections
  pub listed : (i : ℕ) → i < n → is_code_section (section bytes i) ≡ true
      → 2 ≤ (section bytes i).size → Contains sections (section bytes i)
  pub before : All (λ s. (i : ℕ) × (i < n) × (section bytes i ≡ s) × (is_code_section s ≡ true)) sections
  pub apart : any_pair shares_address sections ≡ false

-- They are all listed: each code section that holds a halfword is one of these.
abbrev pub AreListed : List ℕ → List Section → Type 0
AreListed bytes sections =
    (i : ℕ) → i < section_count bytes → is_code_section (section bytes i) ≡ true
    → 2 ≤ (section bytes i).size
    → Contains sections (section bytes i)

-- How many halfwords the end of the chain of an address lies ahead; none if no code stands there.
abbrev pub Reaches : List ℕ → ℕ → Option ℕ → Type 0
Reaches bytes a None = is_code bytes a ≡ false
Reaches bytes a (Some reach) = (is_code bytes a ≡ true) × IsChainEnd bytes a (a + 2 * reach)

-- The word at an offset of a section's bytes, if all four of its bytes are there.
abbrev pub word_of : List ℕ → ℕ → Option ℕ
word_of code at = if nat_le (at + 4) (length code) then Some (u32_at code at) else None

-- The length of a straight instruction that begins with this halfword: the low two bits of a 16-bit
-- one are not 11.
abbrev pub length_by : ℕ → ℕ
length_by half = if half % 4 == 3 then 4 else 2

-- How far a chain reaches over an instruction of this length: near and far are how far the chains
-- of the first and the second halfword after its first one reach.
abbrev pub reach_over : Option ℕ → Option ℕ → Option ℕ → ℕ
reach_over None near far = 0
reach_over (Some n) near far =
    if n == 2 then option_map_or (λ reach. reach + 1) near 0
    else option_map_or (λ reach. reach + 2) far 0

-- This many halfwords an instruction of this length takes; none if control does not go straight on.
abbrev pub halfwords : Option ℕ → ℕ
halfwords None = 0
halfwords (Some n) = n / 2

-- The end of the chain of the halfword with the number i in a code section lies this many halfwords
-- ahead, and its number fits in 32 bits.
pub record IsReach (bytes : List ℕ) (s : Section) (i reach : ℕ) : Type 0 where
  pub end : IsChainEnd bytes (s.address + 2 * i) (s.address + 2 * i + 2 * reach)
  pub fits : i + reach < 2 ^ 32

-- The same of a halfword that may stand after the section; none if no code stands there.
pub record ReachesFrom (bytes : List ℕ) (s : Section) (i : ℕ) (reach : Option ℕ) : Type 0 where
  pub reaches : Reaches bytes (s.address + 2 * i) reach
  pub fits : IfSome reach (λ n. i + n < 2 ^ 32)

-- What is found so far is right.
abbrev pub AreRight : List ℕ → List SectionReaches → Type 0
AreRight bytes found = All (IsSectionReaches bytes) found

-- The first `count` of them begin above an address, and the later ones at it or below.
pub record IsCountAbove (found : List SectionReaches) (a count : ℕ) : Type 0 where
  pub bound : count ≤ length found
  pub above : (i : ℕ) (d : SectionReaches) → i < count → a < (get_or found i d).address
  pub others : (i : ℕ) (d : SectionReaches) → count ≤ i → i < length found
      → (get_or found i d).address ≤ a

-- They are all code sections that hold a halfword, but for some that are left.
abbrev pub AreFoundBut : List ℕ → List Section → List SectionReaches → Type 0
AreFoundBut bytes left found =
    (i : ℕ) → i < section_count bytes → is_code_section (section bytes i) ≡ true
    → 2 ≤ (section bytes i).size
    → Contains left (section bytes i) ⊎ BeginsAt found (section bytes i).address

-- Sections stand in the order of their addresses, and no two begin at one address.
abbrev pub AreRising : List Section → Type 0
AreRising sections =
    (i j : ℕ) (d : Section) → i < j → j < length sections
    → (get_or sections i d).address < (get_or sections j d).address

-- A section that is kept is that of an address: its reach is there, and so are both its bytes, and
-- its word if another halfword follows. The number of the address is told from those of the section.
pub record IsReachedAt (bytes : List ℕ) (a : ℕ) (kept : SectionReaches) : Type 0 where
  pub image : IsImage bytes
  pub start : kept.address ≤ a
  pub within : (a - kept.address) / 2 < length kept.reaches.items
  pub end : (d : ℕ)
      → IsChainEnd bytes a (a + 2 * get_or kept.reaches.items ((a - kept.address) / 2) d)
  pub half : half_at bytes a ≡ Some (u16_at bytes (kept.offset + (a - kept.address)))
  pub in_file : kept.offset + (a - kept.address) + 2 ≤ length bytes
  pub word : (a - kept.address) / 2 + 1 < length kept.reaches.items
      → word_at bytes a ≡ Some (u32_at bytes (kept.offset + (a - kept.address)))
  pub word_in_file : (a - kept.address) / 2 + 1 < length kept.reaches.items
      → kept.offset + (a - kept.address) + 4 ≤ length bytes
  pub no_word : length kept.reaches.items ≤ (a - kept.address) / 2 + 1 → word_at bytes a ≡ None
  pub small : length bytes ≤ 67108864
  pub counted : kept.from ≤ code_count bytes
  pub number : codes_below bytes a + kept.from ≡ code_count bytes + (a - kept.address) / 2

-- The same, and an instruction stands at the section's first address too.
pub record IsNumberedIn (bytes : List ℕ) (a : ℕ) (kept : SectionReaches) : Type 0 where
  pub at : IsReachedAt bytes a kept
  pub first : is_code bytes kept.address ≡ true
