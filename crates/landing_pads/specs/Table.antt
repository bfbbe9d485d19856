-- Exception tables: Language-Specific Data Areas (Itanium C++ ABI, "Exception Handling Tables"; the
-- layout of LSDA in GCC's unwinder).
use Rattle.std.specs.Prelude.{ℕ, zero, suc, ◌+◌, ◌%◌, ◌/◌, ◌^◌, ◌==◌, not, List, [], ◌∷◌}
use Rattle.std.specs.Prelude.{length, map, if◌then◌else◌}
use Rattle.std.specs.List.{filter}
use Rattle.std.specs.Option.{option_map, option_map_or, option_and_then}
use Rattle.std.specs.declared.option.Option.{Option}
use Rattle.std.specs.declared.option.Option.TheVariants.{None, Some}
use Rattle.elf_image.specs.ReadOnly.{bytes_from}
use Rattle.landing_pads.specs.declared.range.Range.{Range}
use Rattle.landing_pads.specs.declared.frame.Frame.{Frame}
use Rattle.landing_pads.specs.declared.table.Entry.{Entry}
use Rattle.landing_pads.specs.Place.{Place, byte, first, passed}
use Rattle.landing_pads.specs.Number.{uleb128, number}
use Rattle.landing_pads.specs.Pointer.{pointer}

-- where landing pads count from: `start`, or a pointer
unfoldable pub base : ℕ → Place → Option (ℕ × Place)
base start p =
    option_and_then
    (λ encoding. if encoding.0 == 0xFF then Some (start, encoding.1)
    else pointer encoding.0 encoding.1)
    (byte p)

-- the distance of the table of types, which is passed over
unfoldable pub types : Place → Option Place
types p =
    option_and_then
    (λ encoding. if encoding.0 == 0xFF then Some encoding.1 else passed (uleb128 encoding.1))
    (byte p)

-- the bytes of the entries, after their size
abbrev pub sized : Place → Option Place
sized p = option_and_then (λ size. first size.0 size.1) (uleb128 p)

-- the encoding of the entries, whose high four bits are 0, and their bytes
unfoldable pub entry_bytes : Place → Option (ℕ × Place)
entry_bytes p =
    option_and_then
    (λ encoding. if encoding.0 / 16 == 0
    then option_map (λ es. (encoding.0, es)) (sized encoding.1) else None)
    (byte p)

-- what stands before the entries says: the base of pads, the encoding of the entries, their bytes
unfoldable pub head : ℕ → Place → Option (ℕ × ℕ × Place)
head start p =
    option_and_then
    (λ b. option_map (λ es. (b.0, es.0, es.1)) (option_and_then entry_bytes (types b.1)))
    (base start p)

-- one entry: from where, how far and to which pad, and an action, which is passed over
unfoldable pub entry : ℕ → Place → Option (Entry × Place)
entry encoding p =
    option_and_then
    (λ from. option_and_then
    (λ len. option_and_then
    (λ to. option_map
    (λ rest. (record { from = from.0; len = len.0; to = to.0 }, rest))
    (passed (uleb128 to.1)))
    (number encoding len.1))
    (number encoding from.1))
    (number encoding p)

-- the first n entries, up to one that is not whole
abbrev pub entries_from : ℕ → ℕ → Place → List Entry
entries_from zero encoding p = []
entries_from (suc n) encoding p =
    option_map_or (λ e. e.0 ∷ entries_from n encoding e.1) (entry encoding p) []

-- all of them: each takes a byte at least
unfoldable pub entries : ℕ → Place → List Entry
entries encoding p = entries_from (length p.bytes) encoding p

-- the range of an entry of the code from `start` on
abbrev pub range_of : ℕ → ℕ → Entry → Range
range_of start base e = record {
  begin = (start + e.from) % 2 ^ 64;
  len = e.len;
  pad = (base + e.to) % 2 ^ 64;
}

-- the ranges of some entries: one without a pad makes none
abbrev pub ranges_of : ℕ → ℕ → List Entry → List Range
ranges_of start base es = map (range_of start base) (filter (λ e. not (e.to == 0)) es)

-- the ranges of a table
unfoldable pub table_ranges : ℕ → Place → List Range
table_ranges start p =
    option_map_or (λ h. ranges_of start h.0 (entries h.1 h.2)) (head start p) []

-- the ranges of a frame: its table is read where it stands, up to the end of its section
unfoldable pub frame_ranges : List ℕ → Frame → List Range
frame_ranges bytes f =
    if f.table == 0 then []
    else option_map_or (λ table. table_ranges f.start (record { address = f.table; bytes = table }))
    (bytes_from bytes f.table) []
