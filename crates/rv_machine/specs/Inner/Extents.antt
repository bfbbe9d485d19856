-- Ranges of addresses, as the memory of a file is laid out.
use Rattle.std.specs.Prelude.{◌≡◌, ℕ, ◌+◌, ◌<◌, ◌≤◌, ◌&&◌, nat_le, nat_lt, Bool, true, List, length, Some, None}
use Rattle.std.specs.Prelude.{if◌then◌else◌}
use Rattle.std.specs.Option.{option_or}
use Rattle.std.specs.List.{list_any, All, AllPairs}
use Rattle.elf_image.specs.declared.section.Section.{Section}
use Rattle.elf_image.specs.Sections.{holds_bytes}
use Rattle.rv_machine.specs.Memory.{Bytes}
use Rattle.rv_machine.specs.declared.extent.Extent.{Extent}
use Rattle.rv_machine.specs.declared.part.Part.{Part}

-- an address lies in the range
abbrev pub is_inside : ℕ → Extent → Bool
is_inside a e = nat_le e.start a && nat_lt a e.end

-- the ranges in which the stack, a section and a part lie
abbrev pub stack_extent : Extent
stack_extent = record { start = 0x7FFE_0000; end = 0x7FFF_0000 }

abbrev pub section_extent : Section → Extent
section_extent s = record { start = s.address; end = s.address + s.size }

abbrev pub extent_of : Part → Extent
extent_of part = record { start = part.start; end = part.start + length part.bytes.items }

-- zeros at all its addresses
abbrev pub zero_bytes : Extent → Bytes
zero_bytes e a = if is_inside a e then Some 0 else None

-- one memory before another
abbrev pub over : Bytes → Bytes → Bytes
over upper lower a = option_or (upper a) (lower a)

-- none ends before it starts
abbrev pub AreWhole : List Extent → Type 0
AreWhole xs = All (λ e. e.start ≤ e.end) xs

-- each starts past the ends of those before it
abbrev pub AreApart : List Extent → Type 0
AreApart xs = AllPairs (λ e f. e.end < f.start) xs

-- none starts past an address
abbrev pub StartBy : ℕ → List Extent → Type 0
StartBy a xs = All (λ e. e.start ≤ a) xs

-- both have the same addresses
abbrev pub CoverSame : List Extent → List Extent → Type 0
CoverSame xs ys = (a : ℕ) → list_any (is_inside a) xs ≡ list_any (is_inside a) ys

-- they have all addresses of a section
abbrev pub CoverSection : List Extent → Section → Type 0
CoverSection xs s = (a : ℕ) → holds_bytes a 1 s ≡ true → list_any (is_inside a) xs ≡ true
