-- Where the parts of a made file stand, and the numbers that are read there.
use Rattle.std.proofs.Common.{◌≡◌, ℕ, ◌+◌, ◌≤◌, List, ◌++◌, length, drop, replicate, refl, sym, ap, ◌∙◌, arith}
use Rattle.std.proofs.lemmas.List.{append_assoc, drop_at, drop-drop, drop-append-le, length-drop}
use Rattle.byteorder.specs.Endian.{little_number}
use Rattle.byteorder.specs.Numbers.{little_from-append}
use Rattle.elf_image.specs.Number.{u16_at, u32_at, u64_at}
use Rattle.elf_maker.specs.declared.parts.Parts.{Parts}
use Rattle.elf_maker.specs.Fields.{padded, padding}
use Rattle.elf_maker.specs.Header.{file_header}
use Rattle.elf_maker.specs.Symbols.{symbol_table, string_table}
use Rattle.elf_maker.specs.Sections.{rodata_place, symbols_place, strings_place, headers_place, section_headers, section_table}
use Rattle.elf_maker.specs.MadeFile.{made_file}
use Rattle.elf_maker.proofs.Sizes.{length-file_header}

-- what stands behind the first part of what stands at a place
pub drop-next : (at n : ℕ) (bytes part rest : List ℕ) → drop at bytes ≡ part ++ rest → length part ≡ n → drop (at + n) bytes ≡ rest
drop-next at n bytes part rest stands size =
    sym (drop-drop n at bytes) ∙ ap (λ (xs : List ℕ). drop n xs) stands ∙ drop_at part rest n size

-- a number inside a part that stands at a place
number-within : (n k at : ℕ) (bytes part rest : List ℕ) → drop at bytes ≡ part ++ rest → k + n ≤ length part → little_number n (drop (at + k) bytes) ≡ little_number n (drop k part)
number-within n k at bytes part rest stands fits =
    let enough : n ≤ length (drop k part) = rw (length-drop k part) (omega arith) in
    ap (λ (xs : List ℕ). little_number n xs) (sym (drop-drop k at bytes) ∙ ap (λ (xs : List ℕ). drop k xs) stands ∙ drop-append-le k part rest (omega arith))
    ∙ little_from-append n (drop k part) rest enough

pub half-within : (k at : ℕ) (bytes part rest : List ℕ) → drop at bytes ≡ part ++ rest → k + 2 ≤ length part → u16_at bytes (at + k) ≡ u16_at part k
unfolding u16_at
half-within k at bytes part rest stands fits = number-within 2 k at bytes part rest stands fits

pub word-within : (k at : ℕ) (bytes part rest : List ℕ) → drop at bytes ≡ part ++ rest → k + 4 ≤ length part → u32_at bytes (at + k) ≡ u32_at part k
unfolding u32_at
word-within k at bytes part rest stands fits = number-within 4 k at bytes part rest stands fits

-- a field, by what stands from it on
number-field : (n k at x : ℕ) (bytes here : List ℕ) → drop at bytes ≡ here → little_number n (drop k here) ≡ x → little_number n (drop (at + k) bytes) ≡ x
number-field n k at x bytes here stands is =
    ap (λ (xs : List ℕ). little_number n xs) (sym (drop-drop k at bytes) ∙ ap (λ (xs : List ℕ). drop k xs) stands) ∙ is

pub half-field : (k at x : ℕ) (bytes here : List ℕ) → drop at bytes ≡ here → little_number 2 (drop k here) ≡ x → u16_at bytes (at + k) ≡ x
unfolding u16_at
half-field k at x bytes here stands is = number-field 2 k at x bytes here stands is

pub word-field : (k at x : ℕ) (bytes here : List ℕ) → drop at bytes ≡ here → little_number 4 (drop k here) ≡ x → u32_at bytes (at + k) ≡ x
unfolding u32_at
word-field k at x bytes here stands is = number-field 4 k at x bytes here stands is

pub xword-field : (k at x : ℕ) (bytes here : List ℕ) → drop at bytes ≡ here → little_number 8 (drop k here) ≡ x → u64_at bytes (at + k) ≡ x
unfolding u64_at
xword-field k at x bytes here stands is = number-field 8 k at x bytes here stands is

-- padded bytes stand with zero bytes behind them
pub padded-append : (bytes rest : List ℕ) → padded bytes ++ rest ≡ bytes ++ (replicate (padding (length bytes)) 0 ++ rest)
unfolding padded
padded-append bytes rest = append_assoc bytes (replicate (padding (length bytes)) 0) rest

module _ (parts : Parts) where
  abbrev pub header_of : List ℕ
  header_of = file_header parts.entry (headers_place parts) (length (section_headers parts))

  -- what stands behind each part
  abbrev pub behind_strings : List ℕ
  behind_strings = section_table parts

  abbrev pub behind_symbols : List ℕ
  behind_symbols = padded (string_table parts.symbols) ++ behind_strings

  abbrev pub behind_rodata : List ℕ
  behind_rodata = symbol_table parts.symbols ++ behind_symbols

  abbrev pub behind_code : List ℕ
  behind_code = padded parts.rodata ++ behind_rodata

  abbrev pub behind_header : List ℕ
  behind_header = padded parts.code ++ behind_code

  pub made_file-is : made_file parts ≡ header_of ++ behind_header
  unfolding made_file
  made_file-is = simp append_assoc

  pub at_code : drop 64 (made_file parts) ≡ behind_header
  at_code = drop-next 0 64 (made_file parts) header_of behind_header made_file-is (length-file_header parts.entry (headers_place parts) (length (section_headers parts)))

  pub at_rodata : drop (rodata_place parts) (made_file parts) ≡ behind_code
  unfolding rodata_place
  at_rodata = drop-next 64 (length (padded parts.code)) (made_file parts) (padded parts.code) behind_code at_code refl

  pub at_symbols : drop (symbols_place parts) (made_file parts) ≡ behind_rodata
  unfolding symbols_place
  at_symbols = drop-next (rodata_place parts) (length (padded parts.rodata)) (made_file parts) (padded parts.rodata) behind_rodata at_rodata refl

  pub at_strings : drop (strings_place parts) (made_file parts) ≡ behind_symbols
  unfolding strings_place
  at_strings = drop-next (symbols_place parts) (length (symbol_table parts.symbols)) (made_file parts) (symbol_table parts.symbols) behind_symbols at_symbols refl

  pub at_headers : drop (headers_place parts) (made_file parts) ≡ section_table parts
  unfolding headers_place
  at_headers =
      drop-next (strings_place parts) (length (padded (string_table parts.symbols))) (made_file parts) (padded (string_table parts.symbols)) (section_table parts) at_strings refl
