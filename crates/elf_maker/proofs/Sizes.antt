-- The size of a made file, and that its parts lie in it.
use Rattle.std.proofs.Common.{◌≡◌, ℕ, ◌+◌, ◌*◌, ◌≤◌, List, [], ◌∷◌, length, replicate, refl, ◌∙◌, arith, true, false, inl, inr}
use Rattle.std.specs.List.{flat_map}
use Rattle.std.proofs.lemmas.Bool.{cases_Bool}
use Rattle.std.proofs.lemmas.List.{length-append, length-replicate}
use Rattle.elf_maker.specs.declared.parts.Parts.{Parts}
use Rattle.elf_maker.specs.declared.parts.MadeSymbol.{MadeSymbol}
use Rattle.elf_maker.specs.declared.section.SectionHeader.{SectionHeader}
use Rattle.elf_maker.specs.Fields.{halves, words, xwords, padded}
use Rattle.elf_maker.specs.Header.{file_header}
use Rattle.elf_maker.specs.Symbols.{symbol_entry, symbol_entries, symbol_table, string_table, terminated_name, has_symbols}
use Rattle.elf_maker.specs.Sections.{section_bytes, rodata_place, symbols_place, strings_place, headers_place, section_headers, symbol_headers, section_table}
use Rattle.elf_maker.specs.MadeFile.{made_file}

-- the ELF header has 64 bytes, and so has each section header
pub length-file_header : (entry table count : ℕ) → length (file_header entry table count) ≡ 64
unfolding file_header halves words xwords
length-file_header entry table count = refl

pub length-section_bytes : (s : SectionHeader) → length (section_bytes s) ≡ 64
unfolding section_bytes words xwords
length-section_bytes s = refl

length-headers : (hs : List SectionHeader) → length (flat_map section_bytes hs) ≡ 64 * length hs
length-headers [] = refl
length-headers (s ∷ ss) =
    length-append (section_bytes s) (flat_map section_bytes ss) ∙ omega (arith, length-section_bytes s, length-headers ss)

-- a symbol has 24 bytes
pub length-symbol_entry : (name address : ℕ) → length (symbol_entry name address) ≡ 24
unfolding symbol_entry halves words xwords
length-symbol_entry name address = refl

pub length-symbol_entries : (name : ℕ) (symbols : List MadeSymbol) → length (symbol_entries name symbols) ≡ 24 * length symbols
unfolding symbol_entries
length-symbol_entries name [] = refl
length-symbol_entries name (s ∷ ss) =
    length-append (symbol_entry name s.address) (symbol_entries (name + length (terminated_name s)) ss)
    ∙ omega (arith, length-symbol_entry name s.address, length-symbol_entries (name + length (terminated_name s)) ss)

-- padding takes no byte away
pub length-padded : (bytes : List ℕ) → length bytes ≤ length (padded bytes)
unfolding padded
length-padded bytes = simp length-append (omega arith)

-- and adds fewer than eight
pub length-padded_le : (bytes : List ℕ) → length (padded bytes) ≤ length bytes + 7
unfolding padded
length-padded_le bytes = simp (length-append, length-replicate) (omega arith)

module _ (parts : Parts) where
  -- the section headers stand behind everything else
  pub length-made_file : length (made_file parts) ≡ headers_place parts + length (section_table parts)
  unfolding made_file headers_place strings_place symbols_place rodata_place
  length-made_file =
      simp (length-append, length-file_header) refl

  pub length-section_table : length (section_table parts) ≡ 64 * length (section_headers parts)
  unfolding section_table
  length-section_table = length-headers (section_headers parts)

  pub headers_within : headers_place parts ≤ length (made_file parts)
  headers_within = omega (arith, length-made_file)

  pub strings_within : length (string_table parts.symbols) ≤ length (made_file parts)
  unfolding headers_place
  strings_within = omega (arith, length-made_file, length-padded (string_table parts.symbols))

  -- each part ends in the file
  pub code_ends : 64 + length parts.code ≤ length (made_file parts)
  unfolding headers_place strings_place symbols_place rodata_place
  code_ends = omega (arith, length-made_file, length-padded parts.code)

  pub rodata_ends : rodata_place parts + length parts.rodata ≤ length (made_file parts)
  unfolding headers_place strings_place symbols_place
  rodata_ends = omega (arith, length-made_file, length-padded parts.rodata)

  pub symbols_end : symbols_place parts + length (symbol_table parts.symbols) ≤ length (made_file parts)
  unfolding headers_place strings_place
  symbols_end = omega (arith, length-made_file)

  pub strings_end : strings_place parts + length (string_table parts.symbols) ≤ length (made_file parts)
  unfolding headers_place
  strings_end = omega (arith, length-made_file, length-padded (string_table parts.symbols))

  -- there are three sections, or five
  pub three_sections : has_symbols parts.symbols ≡ false → length (section_headers parts) ≡ 3
  unfolding section_headers symbol_headers
  three_sections none = rw none refl

  pub five_sections : has_symbols parts.symbols ≡ true → length (section_headers parts) ≡ 5
  unfolding section_headers symbol_headers
  five_sections some = rw some refl

  pub few_sections : (3 ≤ length (section_headers parts)) × (length (section_headers parts) ≤ 5)
  few_sections = elim (cases_Bool (has_symbols parts.symbols)) [
    | inl some ↦ let e = five_sections some in (omega arith, omega arith)
    | inr none ↦ let e = three_sections none in (omega arith, omega arith)
  ]

  -- how large the tables are at most
  few_symbols : length (symbol_table parts.symbols) ≤ 24 + 24 * length parts.symbols
  unfolding symbol_table
  few_symbols = elim (cases_Bool (has_symbols parts.symbols)) [
    | inl some ↦ rw some (omega (arith, length-append (replicate 24 0) (symbol_entries 1 parts.symbols), length-symbol_entries 1 parts.symbols))
    | inr none ↦ rw none (omega arith)
  ]

  few_strings : length (string_table parts.symbols) ≤ 1 + length (flat_map terminated_name parts.symbols)
  unfolding string_table
  few_strings = elim (cases_Bool (has_symbols parts.symbols)) [
    | inl some ↦ rw some (omega arith)
    | inr none ↦ rw none (omega arith)
  ]

  -- a made file is at most 430 bytes larger than what it is made of: for callers of `make_elf`
  pub made_file_size : length (made_file parts) ≤ 430 + length parts.code + length parts.rodata + 24 * length parts.symbols + length (flat_map terminated_name parts.symbols)
  unfolding headers_place strings_place symbols_place rodata_place
  made_file_size =
      let sections = few_sections in
      omega (
        arith,
        length-made_file,
        length-section_table,
        length-padded_le parts.code,
        length-padded_le parts.rodata,
        length-padded_le (string_table parts.symbols),
        few_symbols,
        few_strings,
      )
