-- What is read of the section headers of a made file.
use Rattle.std.proofs.Common.{◌≡◌, ℕ, zero, suc, ◌+◌, ◌*◌, ◌<◌, ◌^◌, List, [], ◌∷◌, ◌++◌, map, length, drop, get_or, refl, ap, sym, ◌∙◌, arith}
use Rattle.std.specs.List.{flat_map, range_with_len, All}
use Rattle.std.proofs.lemmas.List.{get_or-map, length-map}
use Rattle.std.proofs.lemmas.List.FromFn.{fill_by_all}
use Rattle.byteorder.specs.Numbers.{little_number-reads_back}
use Rattle.elf_image.specs.declared.section.Section.{Section}
use Rattle.elf_image.specs.Header as header
use Rattle.elf_image.specs.Number.{u32_at}
use Rattle.elf_image.specs.Sections.{section_header, section, sections}
use Rattle.elf_maker.specs.declared.section.SectionHeader.{SectionHeader}
use Rattle.elf_maker.specs.Fields.{words, xwords}
use Rattle.elf_maker.specs.Sections.{section_bytes, null_header}
use Rattle.elf_maker.proofs.Sizes.{length-section_bytes}
use Rattle.elf_maker.proofs.Places.{word-field, xword-field, drop-next}

-- the fields of a section header that are read
abbrev pub as_read : SectionHeader → Section
as_read s = record {
  name = 0;
  kind = s.kind;
  flags = s.flags;
  address = s.address;
  offset = s.offset;
  size = s.size;
  link = s.link;
  entry_size = s.entry_size;
}

-- its numbers fit their fields
pub record IsFitHeader (s : SectionHeader) : Type 0 where
  pub kind : s.kind < 2 ^ 32
  pub flags : s.flags < 2 ^ 64
  pub address : s.address < 2 ^ 64
  pub offset : s.offset < 2 ^ 64
  pub size : s.size < 2 ^ 64
  pub link : s.link < 2 ^ 32
  pub entry_size : s.entry_size < 2 ^ 64

abbrev section_of : (n k f a o z l e : ℕ) → Section
section_of n k f a o z l e = record { name = n; kind = k; flags = f; address = a; offset = o; size = z; link = l; entry_size = e }

-- equal fields make equal sections
same_section : (n n' k k' f f' a a' o o' z z' l l' e e' : ℕ) → n ≡ n' → k ≡ k' → f ≡ f' → a ≡ a' → o ≡ o' → z ≡ z' → l ≡ l' → e ≡ e' → section_of n k f a o z l e ≡ section_of n' k' f' a' o' z' l' e'
same_section n n' k k' f f' a a' o o' z z' l l' e e' name kind flags address offset size link entry_size =
    rw (name, kind, flags, address, offset, size, link, entry_size) refl

-- a header that stands at a place is read there
pub section_header-is : (bytes rest : List ℕ) (at : ℕ) (s : SectionHeader) → IsFitHeader s → drop at bytes ≡ section_bytes s ++ rest → section_header bytes at ≡ as_read s
unfolding section_bytes words xwords
section_header-is bytes rest at s fits stands =
    same_section _ 0 _ s.kind _ s.flags _ s.address _ s.offset _ s.size _ s.link _ s.entry_size
    (ap (u32_at bytes) (at_front at) ∙ word-field 0 at 0 bytes (section_bytes s ++ rest) stands (little_number-reads_back 4 0 [] (omega arith)))
    (word-field 4 at s.kind bytes (section_bytes s ++ rest) stands (little_number-reads_back 4 s.kind [] (omega (arith, fits.kind))))
    (xword-field 8 at s.flags bytes (section_bytes s ++ rest) stands (little_number-reads_back 8 s.flags [] (omega (arith, fits.flags))))
    (xword-field 16 at s.address bytes (section_bytes s ++ rest) stands (little_number-reads_back 8 s.address [] (omega (arith, fits.address))))
    (xword-field 24 at s.offset bytes (section_bytes s ++ rest) stands (little_number-reads_back 8 s.offset [] (omega (arith, fits.offset))))
    (xword-field 32 at s.size bytes (section_bytes s ++ rest) stands (little_number-reads_back 8 s.size [] (omega (arith, fits.size))))
    (word-field 40 at s.link bytes (section_bytes s ++ rest) stands (little_number-reads_back 4 s.link [] (omega (arith, fits.link))))
    (xword-field 56 at s.entry_size bytes (section_bytes s ++ rest) stands (little_number-reads_back 8 s.entry_size [] (omega (arith, fits.entry_size))))
  where
    at_front : (n : ℕ) → n ≡ n + 0
    at_front n = omega arith

-- so are the headers of a table
pub table-at : (bytes : List ℕ) (at : ℕ) (hs : List SectionHeader) → All IsFitHeader hs → drop at bytes ≡ flat_map section_bytes hs → (i : ℕ) → i < length hs → section_header bytes (at + 64 * i) ≡ as_read (get_or hs i null_header)
table-at bytes at [] fits stands i within = absurd (omega arith)
table-at bytes at (s ∷ ss) fits stands zero within =
    let e : at + 64 * 0 ≡ at = omega arith in
    ap (section_header bytes) e ∙ section_header-is bytes (flat_map section_bytes ss) at s (fits 0 s (omega arith)) stands
table-at bytes at (s ∷ ss) fits stands (suc i) within =
    let next = drop-next at 64 bytes (section_bytes s) (flat_map section_bytes ss) stands (length-section_bytes s) in
    let e : at + 64 * suc i ≡ at + 64 + 64 * i = omega arith in
    ap (section_header bytes) e ∙ (table-at bytes (at + 64) ss (λ k d below. fits (suc k) d (omega arith)) next i (omega arith))

-- the sections of a file whose table has these headers
pub sections-are : (bytes : List ℕ) (at : ℕ) (hs : List SectionHeader) → All IsFitHeader hs → drop at bytes ≡ flat_map section_bytes hs → header.section_table_offset bytes ≡ at → header.section_count bytes ≡ length hs → sections bytes ≡ map as_read hs
unfolding sections section
sections-are bytes at hs fits stands place count =
    let is : map as_read hs ≡ map (section bytes) (range_with_len 0 (length hs)) =
    fill_by_all (section bytes) (map as_read hs) (length hs) (as_read null_header) (length-map hs as_read)
    (λ k below. get_or-map as_read hs k null_header (as_read null_header) below
    ∙ sym (table-at bytes at hs fits stands k below)
    ∙ ap (λ o. section_header bytes (o + 64 * k)) (sym place)) in
    ap (λ n. map (section bytes) (range_with_len 0 n)) count ∙ sym is
