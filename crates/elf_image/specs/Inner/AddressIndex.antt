-- Sections as they are kept to be searched. No public clause names what stands here.
use Rattle.std.specs.Prelude.{◌≡◌, ℕ, ◌+◌, ◌<◌, ◌≤◌, List, length, slice_index_or}
use Rattle.std.specs.List.{find, AllAdjacentBelow}
use Rattle.elf_image.specs.declared.section.Section.{Section}
use Rattle.elf_image.specs.Sections.{holds_bytes}

-- each section ends where the next begins, or before
abbrev pub IsLaidOut : List Section → Type 0
IsLaidOut xs = AllAdjacentBelow (λ s t. s.address + s.size ≤ t.address) xs (length xs)

-- a section ends past the address where the next begins
abbrev pub HasOverhang : List Section → Type 0
HasOverhang xs =
    (k : ℕ)
    × (k + 1 < length xs)
    × ((d : Section) → (slice_index_or xs (k + 1) d).address < (slice_index_or xs k d).address +
    (slice_index_or xs k d).size)

-- the first of xs and the first of ys that have some bytes are the same section
abbrev pub FindsSame : List Section → List Section → Type 0
FindsSame xs ys = (a n : ℕ) → 0 < n → find (holds_bytes a n) xs ≡ find (holds_bytes a n) ys
