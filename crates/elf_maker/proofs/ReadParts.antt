-- The code and the read-only data of a made file, as they are read.
use Rattle.std.proofs.Common.{◌≡◌, ℕ, ◌+◌, ◌-◌, ◌≤◌, Bool, true, false, cond, ◌||◌, ◌&&◌, ◌++◌, length, Some, None, refl, ap, sym, ◌∙◌, arith, inl, inr, leb, replicate}
use Rattle.std.proofs.lemmas.Bool.{cases_Bool, and_parts, leb-true, le-leb, and_from, both_ways}
use Rattle.elf_image.specs.declared.section.Section.{Section}
use Rattle.elf_image.specs.Number.{u16_at, u32_at}
use Rattle.elf_image.specs.Code.{is_even, is_code_section_of, code_section_of, is_code, half_at, word_at}
use Rattle.elf_image.specs.ReadOnly.{is_read_only_section_of, is_read_only, data_section_of, data_word}
use Rattle.elf_maker.specs.declared.parts.Parts.{Parts}
use Rattle.elf_maker.specs.Fields.{padding}
use Rattle.elf_maker.specs.Sections.{code_header, rodata_header, rodata_place}
use Rattle.elf_maker.specs.MadeFile.{made_file}
use Rattle.elf_maker.specs.Given.{is_in_code, is_in_rodata, is_code_given, half_given, word_given, is_read_only_given, data_given}
use Rattle.elf_maker.proofs.Places.{half-within, word-within, padded-append, at_code, at_rodata, behind_code, behind_rodata}
use Rattle.elf_maker.proofs.Fitting.{AreFit}
use Rattle.elf_maker.proofs.ReadSections.{as_read}
use Rattle.elf_maker.proofs.MadeSections.{sections_made, none_any, none_found}

-- what a test shows of an address, and what shows it
pub in-range : (a n start len : ℕ) → (leb start a && leb (a + n) (start + len)) ≡ true → (start ≤ a) × (a + n ≤ start + len)
in-range a n start len h =
    let both = and_parts (leb start a) (leb (a + n) (start + len)) h in (leb-true start a both.0, leb-true (a + n) (start + len) both.1)

pub in_range-from : (a n start len : ℕ) → start ≤ a → a + n ≤ start + len → (leb start a && leb (a + n) (start + len)) ≡ true
in_range-from a n start len low high = and_from (leb start a) (leb (a + n) (start + len)) (le-leb start a low) (le-leb (a + n) (start + len) high)

module _ (parts : Parts) (fit : AreFit parts) where
  abbrev pub code_section : Section
  code_section = as_read (code_header parts)

  abbrev pub rodata_section : Section
  rodata_section = as_read (rodata_header parts)

  -- the section of a code address is the code
  pub code_section_made : (a : ℕ) → code_section_of (made_file parts) a ≡ cond (is_code_given parts a) (Some code_section) None
  unfolding code_section_of
  code_section_made a = elim (cases_Bool (is_even a)) [
    | inl even ↦ rw (even, sections_made parts fit, none_found parts (is_code_section_of a) refl refl) refl
    | inr odd ↦ rw odd refl
  ]

  pub code_made : (a : ℕ) → is_code (made_file parts) a ≡ is_code_given parts a
  code_made a = elim (cases_Bool (is_code_given parts a)) [
    | inl given ↦ rw (code_section_made a, given) refl
    | inr absent ↦ rw (code_section_made a, absent) refl
  ]

  -- the bytes of the code, and of the read-only data, where they stand in the file
  half-in_code : (k : ℕ) → k + 2 ≤ length parts.code → u16_at (made_file parts) (64 + k) ≡ u16_at parts.code k
  half-in_code k fits =
      half-within k 64 (made_file parts) parts.code (replicate (padding (length parts.code)) 0 ++ behind_code parts)
      (at_code parts ∙ padded-append parts.code (behind_code parts)) fits

  word-in_code : (k : ℕ) → k + 4 ≤ length parts.code → u32_at (made_file parts) (64 + k) ≡ u32_at parts.code k
  word-in_code k fits =
      word-within k 64 (made_file parts) parts.code (replicate (padding (length parts.code)) 0 ++ behind_code parts)
      (at_code parts ∙ padded-append parts.code (behind_code parts)) fits

  word-in_rodata : (k : ℕ) → k + 4 ≤ length parts.rodata → u32_at (made_file parts) (rodata_place parts + k) ≡ u32_at parts.rodata k
  word-in_rodata k fits =
      word-within k (rodata_place parts) (made_file parts) parts.rodata (replicate (padding (length parts.rodata)) 0 ++ behind_rodata parts)
      (at_rodata parts ∙ padded-append parts.rodata (behind_rodata parts)) fits

  code_offset : (a n : ℕ) → is_in_code parts a n ≡ true → (a - parts.code_at) + n ≤ length parts.code
  code_offset a n within = let r = in-range a n parts.code_at (length parts.code) within in omega arith

  rodata_offset : (a n : ℕ) → is_in_rodata parts a n ≡ true → (a - parts.rodata_at) + n ≤ length parts.rodata
  rodata_offset a n within = let r = in-range a n parts.rodata_at (length parts.rodata) within in omega arith

  pub halves_made : (a : ℕ) → half_at (made_file parts) a ≡ half_given parts a
  halves_made a = elim (cases_Bool (is_code_given parts a)) [
    | inl given ↦
        let both = and_parts (is_even a) (is_in_code parts a 2) given in
        rw (code_section_made a, given) (ap Some (half-in_code (a - parts.code_at) (code_offset a 2 both.1)))
    | inr absent ↦ rw (code_section_made a, absent) refl
  ]

  pub words_made : (a : ℕ) → word_at (made_file parts) a ≡ word_given parts a
  words_made a = elim (cases_Bool (is_code_given parts a)) [
    | inl given ↦
        let both = and_parts (is_even a) (is_in_code parts a 2) given in
        rw (code_section_made a, given, both.0) (elim (cases_Bool (is_in_code parts a 4)) [
          | inl within ↦ rw within (ap Some (word-in_code (a - parts.code_at) (code_offset a 4 within)))
          | inr past ↦ rw past refl
        ])
    | inr absent ↦ rw (code_section_made a, absent) (sym (no_word a absent))
  ]
    where
      shorter : (a : ℕ) → is_in_code parts a 2 ≡ false → is_in_code parts a 4 ≡ false
      shorter a absent = elim (cases_Bool (is_in_code parts a 4)) [
        | inl within ↦
            let r = in-range a 4 parts.code_at (length parts.code) within in
            absurd (both_ways _ absent (in_range-from a 2 parts.code_at (length parts.code) (omega arith) (omega arith)))
        | inr past ↦ past
      ]

      no_word : (a : ℕ) → is_code_given parts a ≡ false → word_given parts a ≡ None
      no_word a absent = elim (cases_Bool (is_even a)) [
        | inl even ↦ rw (even, shorter a (rw even at absent)) refl
        | inr odd ↦ rw odd refl
      ]

  -- the section of read-only data at an address: the code, or the read-only data
  pub read_only_made : (a : ℕ) → is_read_only (made_file parts) a ≡ is_read_only_given parts a
  unfolding is_read_only
  read_only_made a = rw (sections_made parts fit, none_any parts (is_read_only_section_of a 1) refl refl) (last (is_in_code parts a 1) (is_in_rodata parts a 1))
    where
      last : (x y : Bool) → (x || (y || false)) ≡ (x || y)
      last true y = refl
      last false true = refl
      last false false = refl

  data_section_made : (a : ℕ) → data_section_of (made_file parts) a ≡ cond (is_in_code parts a 4) (Some code_section) (cond (is_in_rodata parts a 4) (Some rodata_section) None)
  unfolding data_section_of
  data_section_made a = rw (sections_made parts fit, none_found parts (is_read_only_section_of a 4) refl refl) refl

  pub data_words_made : (a : ℕ) → data_word (made_file parts) a ≡ data_given parts a
  data_words_made a = elim (cases_Bool (is_in_code parts a 4)) [
    | inl code ↦ rw (data_section_made a, code) (ap Some (word-in_code (a - parts.code_at) (code_offset a 4 code)))
    | inr other ↦ elim (cases_Bool (is_in_rodata parts a 4)) [
      | inl rodata ↦ rw (data_section_made a, other, rodata) (ap Some (word-in_rodata (a - parts.rodata_at) (rodata_offset a 4 rodata)))
      | inr none ↦ rw (data_section_made a, other, none) refl
    ]
  ]
