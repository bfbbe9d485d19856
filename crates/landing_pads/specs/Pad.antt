-- The landing pads of a file: where the unwinder goes on if a call throws.
use Rattle.std.specs.Prelude.{◌≡◌, ℕ, ◌-◌, ◌==◌, ◌&&◌, nat_lt, nat_le, Bool, List, [], ◌∷◌, ◌++◌}
use Rattle.std.specs.Prelude.{map, max, codes, if◌then◌else◌}
use Rattle.std.specs.List.{find, filter, flat_map}
use Rattle.std.specs.List.Sorted.{IsNonDecreasingBy}
use Rattle.std.specs.Option.{option_map_or, option_and_then}
use Rattle.std.specs.declared.option.Option.{Option}
use Rattle.std.specs.declared.option.Option.TheVariants.{None, Some}
use Rattle.elf_image.specs.declared.section.Section.{Section}
use Rattle.elf_image.specs.Sections.{sections, is_read_only_section, name_begins}
use Rattle.elf_image.specs.Symbols.{section_bytes}
use Rattle.landing_pads.specs.declared.range.Range.{Range}
use Rattle.landing_pads.specs.Place.{Place}
use Rattle.landing_pads.specs.Frame.{frames}
use Rattle.landing_pads.specs.Table.{frame_ranges}

-- a section of frames is read-only and has the name `.eh_frame`
abbrev pub is_frames : List ℕ → Section → Bool
is_frames bytes s = is_read_only_section s && name_begins bytes (codes ".eh_frame" ++ 0 ∷ []) s

-- the bytes of a section at their addresses
abbrev pub section_place : List ℕ → Section → Place
section_place bytes s = record { address = s.address; bytes = section_bytes bytes s }

-- the ranges of the frames of a section
abbrev pub section_ranges : List ℕ → Section → List Range
section_ranges bytes s = flat_map (frame_ranges bytes) (frames (section_place bytes s))

-- all ranges, in the order of sections, records and entries
unfoldable pub ranges : List ℕ → List Range
ranges bytes = flat_map (section_ranges bytes) (filter (is_frames bytes) (sections bytes))

-- the greatest number of a list that is at most b
abbrev pub greatest : ℕ → List ℕ → Option ℕ
greatest b [] = None
greatest b (x ∷ xs) = if nat_le x b then Some (option_map_or (max x) (greatest b xs) x) else greatest b xs

-- of the ranges that begin at b or before the first of those with the greatest beginning
abbrev pub nearest : List Range → ℕ → Option Range
nearest rs b =
    option_and_then (λ begin. find (λ r. r.begin == begin) rs) (greatest b (map (λ r. r.begin) rs))

-- the same ranges in the order of their beginnings: of each beginning the same one is the first
pub record AreByBegin (ranges kept : List Range) : Type 0 where
  pub rises : IsNonDecreasingBy (λ r. r.begin) kept
  pub same : (b : ℕ) → find (λ r. r.begin == b) kept ≡ find (λ r. r.begin == b) ranges

-- the pad of a range, if it has the byte at b
abbrev pub pad_in : ℕ → Range → Option ℕ
pad_in b r = if nat_lt (b - r.begin) r.len then Some r.pad else None

-- the pad of the call whose last byte stands at b
unfoldable pub pad_at : List ℕ → ℕ → Option ℕ
pad_at bytes b = option_and_then (pad_in b) (nearest (ranges bytes) b)
