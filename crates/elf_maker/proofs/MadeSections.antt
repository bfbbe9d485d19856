-- The sections of a made file.
use Rattle.std.proofs.Common.{◌≡◌, ℕ, zero, suc, ◌+◌, ◌*◌, ◌<◌, Bool, false, List, [], ◌∷◌, map, length, get_or, None, refl, ap, ◌∙◌, arith, inl, inr}
use Rattle.std.specs.List.{find, filter, list_any, All}
use Rattle.std.proofs.lemmas.Bool.{cases_Bool}
use Rattle.elf_image.specs.declared.section.Section.{Section}
use Rattle.elf_image.specs.Header as header
use Rattle.elf_image.specs.Sections.{section_header, section, sections}
use Rattle.elf_maker.specs.declared.parts.Parts.{Parts}
use Rattle.elf_maker.specs.Symbols.{has_symbols}
use Rattle.elf_maker.specs.Sections.{null_header, code_header, rodata_header, symbols_header, strings_header, symbol_headers, section_headers, section_table, headers_place}
use Rattle.elf_maker.specs.MadeFile.{made_file}
use Rattle.elf_maker.proofs.Sizes.{few_sections, headers_within, code_ends, rodata_ends, symbols_end, strings_end}
use Rattle.elf_maker.proofs.Places.{behind_header, made_file-is, at_headers}
use Rattle.elf_maker.proofs.Fitting.{AreFit}
use Rattle.elf_maker.proofs.ReadHeader as read
use Rattle.elf_maker.proofs.ReadSections.{as_read, IsFitHeader, sections-are, table-at}

all-none : {X : Type 0} (P : X → Type 0) → All P []
all-none P k d within = absurd (omega arith)

all-more : {X : Type 0} (P : X → Type 0) (x : X) (xs : List X) → P x → All P xs → All P (x ∷ xs)
all-more P x xs here later zero d within = here
all-more P x xs here later (suc k) d within = later k d (omega arith)

module _ (parts : Parts) (fit : AreFit parts) where
  -- the numbers of the section headers fit
  symbol_headers-fit : All IsFitHeader (symbol_headers parts)
  unfolding symbol_headers
  symbol_headers-fit = elim (cases_Bool (has_symbols parts.symbols)) [
    | inl some ↦ rw some
        (all-more IsFitHeader (symbols_header parts) (strings_header parts ∷ []) symbols
        (all-more IsFitHeader (strings_header parts) [] strings (all-none IsFitHeader)))
    | inr none ↦ rw none (all-none IsFitHeader)
  ]
    where
      symbols : IsFitHeader (symbols_header parts)
      symbols = record {
        kind = omega arith;
        flags = omega arith;
        address = omega arith;
        offset = omega (arith, symbols_end parts, fit.small);
        size = omega (arith, symbols_end parts, fit.small);
        link = omega arith;
        entry_size = omega arith;
      }

      strings : IsFitHeader (strings_header parts)
      strings = record {
        kind = omega arith;
        flags = omega arith;
        address = omega arith;
        offset = omega (arith, strings_end parts, fit.small);
        size = omega (arith, strings_end parts, fit.small);
        link = omega arith;
        entry_size = omega arith;
      }

  headers-fit : All IsFitHeader (section_headers parts)
  unfolding section_headers
  headers-fit =
      all-more IsFitHeader null_header (code_header parts ∷ rodata_header parts ∷ symbol_headers parts) null
      (all-more IsFitHeader (code_header parts) (rodata_header parts ∷ symbol_headers parts) code
      (all-more IsFitHeader (rodata_header parts) (symbol_headers parts) rodata symbol_headers-fit))
    where
      null : IsFitHeader null_header
      null = record {
        kind = omega arith;
        flags = omega arith;
        address = omega arith;
        offset = omega arith;
        size = omega arith;
        link = omega arith;
        entry_size = omega arith;
      }

      code : IsFitHeader (code_header parts)
      code = record {
        kind = omega arith;
        flags = omega arith;
        address = omega (arith, fit.code_end);
        offset = omega arith;
        size = omega (arith, code_ends parts, fit.small);
        link = omega arith;
        entry_size = omega arith;
      }

      rodata : IsFitHeader (rodata_header parts)
      rodata = record {
        kind = omega arith;
        flags = omega arith;
        address = omega (arith, fit.rodata_end);
        offset = omega (arith, rodata_ends parts, fit.small);
        size = omega (arith, rodata_ends parts, fit.small);
        link = omega arith;
        entry_size = omega arith;
      }

  -- what the header says
  pub entry_made : header.entry (made_file parts) ≡ parts.entry
  entry_made =
      read.entry-is (made_file parts) (behind_header parts) parts.entry (headers_place parts) (length (section_headers parts)) (made_file-is parts)
      (omega (arith, fit.entry_end, fit.code_end))

  pub count_made : header.section_count (made_file parts) ≡ length (section_headers parts)
  count_made =
      read.section_count-is (made_file parts) (behind_header parts) parts.entry (headers_place parts) (length (section_headers parts)) (made_file-is parts)
      (let few = few_sections parts in omega arith)

  pub table_made : header.section_table_offset (made_file parts) ≡ headers_place parts
  table_made =
      read.section_table_offset-is (made_file parts) (behind_header parts) parts.entry (headers_place parts) (length (section_headers parts)) (made_file-is parts)
      (omega (arith, headers_within parts, fit.small))

  -- the sections of the symbols, where there are any
  abbrev pub symbol_sections : List Section
  symbol_sections = map as_read (symbol_headers parts)

  pub sections_made : sections (made_file parts) ≡ as_read null_header ∷ as_read (code_header parts) ∷ as_read (rodata_header parts) ∷ symbol_sections
  unfolding section_headers section_table
  sections_made =
      sections-are (made_file parts) (headers_place parts) (section_headers parts) headers-fit (at_headers parts) table_made count_made

  pub section_made : (i : ℕ) → i < length (section_headers parts) → section (made_file parts) i ≡ as_read (get_or (section_headers parts) i null_header)
  unfolding section section_table
  section_made i within =
      ap (λ at. section_header (made_file parts) (at + 64 * i)) table_made
      ∙ table-at (made_file parts) (headers_place parts) (section_headers parts) headers-fit (at_headers parts) i within

-- a test that fails on the symbol table and the string table
module _ (parts : Parts) (p : Section → Bool) (symbols : p (as_read (symbols_header parts)) ≡ false) (strings : p (as_read (strings_header parts)) ≡ false) where
  pub none_any : list_any p (map as_read (symbol_headers parts)) ≡ false
  unfolding symbol_headers
  none_any = elim (cases_Bool (has_symbols parts.symbols)) [
    | inl some ↦ rw (some, symbols, strings) refl
    | inr none ↦ rw none refl
  ]

  pub none_found : find p (map as_read (symbol_headers parts)) ≡ None
  unfolding symbol_headers
  none_found = elim (cases_Bool (has_symbols parts.symbols)) [
    | inl some ↦ rw (some, symbols, strings) refl
    | inr none ↦ rw none refl
  ]

  pub none_kept : filter p (map as_read (symbol_headers parts)) ≡ []
  unfolding symbol_headers
  none_kept = elim (cases_Bool (has_symbols parts.symbols)) [
    | inl some ↦ rw (some, symbols, strings) refl
    | inr none ↦ rw none refl
  ]
