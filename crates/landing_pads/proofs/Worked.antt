-- The definitions at work on small sections, by computation.
use Rattle.std.proofs.Common.{◌≡◌, ℕ, ◌-◌, ◌^◌, List, [], ◌∷◌, ◌++◌, Option, Some, None, refl}
use Rattle.std.specs.Option.{option_map}
use Rattle.byteorder.specs.Endian.{little_bytes}
use Rattle.elf_image.specs.Number.{u16_at, u32_at, u64_at}
use Rattle.landing_pads.specs.declared.range.Range.{Range}
use Rattle.landing_pads.specs.Place.{Place, byte}
use Rattle.landing_pads.specs.Number.{number, uleb128, sleb128}
use Rattle.landing_pads.specs.Pointer.{pointer}
use Rattle.landing_pads.specs.Common.{body_at, letter, augmentation, factors, common_from, common_at}
use Rattle.landing_pads.specs.Frame.{frame_from, linked, frame_at, frames}
use Rattle.landing_pads.specs.Table.{base, types, entry_bytes, head, entry, entries, table_ranges}
use Rattle.landing_pads.specs.Pad.{nearest}

-- everything that is computed with
all_of_it : Unit {0}
unfolding u16_at u32_at u64_at byte number uleb128 sleb128 pointer body_at letter augmentation factors common_from common_at frame_from linked frame_at frames base types entry_bytes head entry entries table_ranges
all_of_it = tt

at_1000 : List ℕ → Place
at_1000 bytes = record { address = 0x1000; bytes = bytes }

-- the number of an encoding
Says : ℕ → List ℕ → Option ℕ → Type 0
unfolding all_of_it at_1000
Says encoding bytes n = option_map (λ r. r.0) (number encoding (at_1000 bytes)) ≡ n

-- 624485 and -123456, and those of DWARF 5, "Variable Length Data"
lebs : Says 1 (0xE5 ∷ 0x8E ∷ 0x26 ∷ []) (Some 624485) × Says 9 (0xC0 ∷ 0xBB ∷ 0x78 ∷ []) (Some (2 ^ 64 - 123456)) × Says 1 (0xB9 ∷ 0x64 ∷ []) (Some 12857) × Says 9 (0xFF ∷ 0 ∷ []) (Some 127) × Says 9 (0x80 ∷ 0x7F ∷ []) (Some (2 ^ 64 - 128)) × Says 9 (0x7E ∷ []) (Some (2 ^ 64 - 2))
unfolding Says
lebs = (refl, refl, refl, refl, refl, refl)

fixed_size : Says 2 (0xFE ∷ 0xFF ∷ []) (Some 0xFFFE) × Says 0xA (0xFE ∷ 0xFF ∷ []) (Some (2 ^ 64 - 2)) × Says 0xB (1 ∷ 0 ∷ 0 ∷ 0x80 ∷ []) (Some (2 ^ 64 - 2147483647)) × Says 3 (1 ∷ 0 ∷ 0 ∷ []) None × Says 5 (1 ∷ []) None × Says 1 (0x80 ∷ []) None
unfolding Says
fixed_size = (refl, refl, refl, refl, refl, refl)

-- the pointer of an encoding, whose first byte stands at 1000 (hexadecimal)
Points : ℕ → List ℕ → Option ℕ → Type 0
unfolding all_of_it at_1000
Points encoding bytes n = option_map (λ r. r.0) (pointer encoding (at_1000 bytes)) ≡ n

pointers : Points 0x1B (0xFC ∷ 0xFF ∷ 0xFF ∷ 0xFF ∷ []) (Some 0xFFC) × Points 0x1B (0 ∷ 0 ∷ 0 ∷ 0 ∷ []) (Some 0) × Points 3 (4 ∷ 0 ∷ 0 ∷ 0 ∷ []) (Some 4) × Points 0x9B (4 ∷ 0 ∷ 0 ∷ 0 ∷ []) None × Points 0xFF (4 ∷ 0 ∷ 0 ∷ 0 ∷ []) None
unfolding Points
pointers = (refl, refl, refl, refl, refl)

-- a common record with the letters `zPLR`, and a frame of the function at 10000 (hexadecimal), whose
-- table stands at 21000
common_record : List ℕ
common_record =
    little_bytes 4 24 ++ little_bytes 4 0 ++ (1 ∷ 0x7A ∷ 0x50 ∷ 0x4C ∷ 0x52 ∷ 0 ∷ 1 ∷ 0x7C ∷ 1 ∷ 7 ∷ [])
    ++ (0x9B ∷ 0 ∷ 0 ∷ 0 ∷ 0 ∷ 0x1B ∷ 0x1B ∷ 0 ∷ 0 ∷ 0 ∷ [])

frame_record : List ℕ
frame_record =
    little_bytes 4 20 ++ little_bytes 4 32 ++ little_bytes 4 (2 ^ 32 - 0x10024) ++ little_bytes 4 16
    ++ (4 ∷ []) ++ little_bytes 4 0xFD3 ++ (0 ∷ 0 ∷ 0 ∷ [])

section : Place
section = record { address = 0x20000; bytes = common_record ++ frame_record ++ (0 ∷ 0 ∷ 0 ∷ 0 ∷ []) }

section-common : common_at section 0 ≡ Some (record { code = 0x1B; table = 0x1B })
unfolding all_of_it section common_record frame_record
section-common = refl

-- no common record begins at the frame
section-no_common : common_at section 28 ≡ None
unfolding all_of_it section common_record frame_record
section-no_common = refl

section-frames : frames section ≡ record { start = 0x10000; table = 0x21000 } ∷ []
unfolding all_of_it section common_record frame_record
section-frames = refl

-- a table of three entries, of which the second has no pad
table : Place
table = record { address = 0x21000; bytes = 0xFF ∷ 0xFF ∷ 1 ∷ 12 ∷ 0 ∷ 4 ∷ 0x40 ∷ 0 ∷ 4 ∷ 4 ∷ 0 ∷ 0 ∷ 8 ∷ 2 ∷ 0x50 ∷ 1 ∷ [] }

range : ℕ → ℕ → ℕ → Range
range begin len pad = record { begin = begin; len = len; pad = pad }

table-ranges : table_ranges 0x10000 table ≡ range 0x10000 4 0x10040 ∷ range 0x10008 2 0x10050 ∷ []
unfolding all_of_it table range
table-ranges = refl

-- the nearest beginning counts, and of equal ones the first
Nearest : List Range → ℕ → Option Range → Type 0
Nearest rs b r = nearest rs b ≡ r

nearest_ones : Nearest (range 0 64 1 ∷ range 8 1 2 ∷ []) 7 (Some (range 0 64 1)) × Nearest (range 0 64 1 ∷ range 8 1 2 ∷ []) 8 (Some (range 8 1 2)) × Nearest (range 8 1 2 ∷ range 0 64 1 ∷ []) 20 (Some (range 8 1 2)) × Nearest (range 4 1 1 ∷ range 4 9 2 ∷ []) 6 (Some (range 4 1 1)) × Nearest (range 4 1 1 ∷ []) 3 None
unfolding Nearest range
nearest_ones = (refl, refl, refl, refl, refl)
