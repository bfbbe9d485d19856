-- Code sections of an accepted file.
use Rattle.std.proofs.Common.{◌≡◌, ℕ, ◌+◌, ◌*◌, ◌<◌, ◌⊎◌, ◌≤◌, ◌^◌, ◌%◌, ◌-◌, true, false, not, ◌&&◌, List, [], ◌∷◌, ◌++◌, length, Some, is_some, refl, sym, ap, ◌∙◌, subst, arith, lit<, inl, inr, eqb, leb}
use Rattle.std.specs.List.{Contains}
use Rattle.std.proofs.lemmas.List.{get_or_push, get_or_append_left, length_push}
use Rattle.std.proofs.lemmas.List.Elements.{All-push}
use Rattle.std.proofs.lemmas.Bool.{cases_order}
use Rattle.std.proofs.lemmas.Bool.{cases_Bool, both_ways, and_parts, and_from, eqb-true, ltb-false, le-leb}
use Rattle.elf_image.specs.declared.section.Section.{Section}
use Rattle.elf_image.specs.declared.fault.Fault.TheVariants.{CodeParity}
use Rattle.elf_image.specs.Header.{section_count}
use Rattle.elf_image.specs.Sections.{section, sections, is_code_section, is_progbits, is_allocated, is_executable, is_null, is_nobits, holds_bytes}
use Rattle.elf_image.specs.Code.{is_even, is_code, code_section_of}
use Rattle.elf_image.specs.FaultTests.{is_odd_code, has_odd_code, any_pair, shares_address}
use Rattle.elf_image.specs.Faults.{has_fault, IsImage}
use Rattle.elf_image.proofs.Accepted.{no_fault, is_small, is_in_file, is_in_memory}
use Rattle.elf_image.proofs.Finds.{any-contained}
use Rattle.elf_image.proofs.LaidOut.{holds-true}
use Rattle.elf_image.proofs.OneSection.{code_section-is, code_section-same}
use Rattle.elf_image.proofs.Ranges.{Contains-section, length-sections, get_or-sections}
use Rattle.chain_index.specs.Found.{IsCodeOf}
use Rattle.chain_index.specs.Inner.{AreFirst}
use Rattle.chain_index.proofs.Apart.{apart_first}

-- what is code has a type, and is in memory
code-kind : (s : Section) → is_code_section s ≡ true → (is_null s ≡ false) × (is_nobits s ≡ false) × (is_allocated s ≡ true)
code-kind s code =
    let parts = and_parts (is_progbits s && is_allocated s) (is_executable s) code in
    let first = and_parts (is_progbits s) (is_allocated s) parts.0 in
    let kind = eqb-true s.kind 1 first.0 in
    (ap (λ k. eqb k 0) kind, ap (λ k. eqb k 8) kind, first.1)

module _ (bytes : List ℕ) (accepted : IsImage bytes) where
  -- code stands at even addresses
  code-even : (s : Section) → Contains (sections bytes) s → is_code_section s ≡ true → is_even s.address ≡ true
  unfolding has_fault has_odd_code
  code-even s there code = elim (cases_Bool (is_even s.address)) [
    | inl even ↦ even
    | inr odd ↦
        absurd (both_ways _ (no_fault bytes accepted 15 CodeParity (lit< tt) refl)
        (any-contained is_odd_code (sections bytes) s there (and_from (is_code_section s) (not (is_even s.address)) code (ap not odd))))
  ]

  -- a code section that holds a halfword
  pub code-of : (i : ℕ) → i < section_count bytes → is_code_section (section bytes i) ≡ true → 2 ≤ (section bytes i).size → IsCodeOf bytes (section bytes i)
  code-of i within code some =
      let s = section bytes i in
      let there = Contains-section bytes i within in
      let kind = code-kind s code in
      let in_file = rw (kind.0, kind.1) at (is_in_file bytes accepted s there) in
      let in_memory = rw kind.2 at (is_in_memory bytes accepted s there) in
      record {
        image = accepted;
        some = some;
        even = code-even s there code;
        in_file = ltb-false _ _ in_file;
        small = is_small bytes accepted;
        in_memory = omega (arith, ltb-false (2 ^ 64 - 1) (s.address + s.size) in_memory);
        whole = λ a even holds. code_section-same bytes accepted a s there code even holds;
      }

-- two bytes in a section
pub holds-at : (a : ℕ) (s : Section) → s.address ≤ a → a + 2 ≤ s.address + s.size → holds_bytes a 2 s ≡ true
holds-at a s start end = and_from (leb s.address a) (leb (a + 2) (s.address + s.size)) (le-leb s.address a start) (le-leb (a + 2) (s.address + s.size) end)

-- its halfwords are code addresses
holds-half : (s : Section) (i : ℕ) → 2 * i + 2 ≤ s.size → holds_bytes (s.address + 2 * i) 2 s ≡ true
holds-half s i within = holds-at (s.address + 2 * i) s (omega arith) (omega arith)

even-half : (a i : ℕ) → is_even a ≡ true → is_even (a + 2 * i) ≡ true
even-half a i even =
    let here : a % 2 ≡ 0 = eqb-true (a % 2) 0 even in
    let there : (a + 2 * i) % 2 ≡ 0 = omega arith in
    ap (λ n. eqb n 0) there

module _ (bytes : List ℕ) (s : Section) (of : IsCodeOf bytes s) (i : ℕ) (within : 2 * i + 2 ≤ s.size) where
  pub section-half : code_section_of bytes (s.address + 2 * i) ≡ Some s
  section-half = of.whole (s.address + 2 * i) (even-half s.address i of.even) (holds-half s i within)

  pub code-half : is_code bytes (s.address + 2 * i) ≡ true
  code-half = ap is_some section-half

-- the section of a code address has an index
pub record IsSectionAt (bytes : List ℕ) (s : Section) (i : ℕ) : Type 0 where
  pub within : i < section_count bytes
  pub is : section bytes i ≡ s
  pub code : is_code_section (section bytes i) ≡ true
  pub some : 2 ≤ (section bytes i).size

pub section-at : (bytes : List ℕ) (a : ℕ) (s : Section) → code_section_of bytes a ≡ Some s → (i : ℕ) × IsSectionAt bytes s i
section-at bytes a s found =
    let parts = code_section-is bytes a s found in
    let held = holds-true a 2 s parts.2 in
    let i = parts.3.0 in
    let within : i < section_count bytes = omega (arith, parts.3.1, length-sections bytes) in
    let is : section bytes i ≡ s = sym (get_or-sections bytes i s within) ∙ parts.3.2 in
    let size : (section bytes i).size ≡ s.size = ap (λ (t : Section). t.size) is in
    (i, record { within = within; is = is; code = ap is_code_section is ∙ parts.1; some = omega (arith, held.0, held.1, size) })

-- ---- the list of them

-- an item stays in a list that gets one more, which is in it too
pub still_in : (xs : List Section) (s t : Section) → Contains xs t → Contains (xs ++ s ∷ []) t
still_in xs s t there = (there.0, omega (arith, there.1, length_push xs s), get_or_append_left xs (s ∷ []) t there.0 there.1 ∙ there.2)

pub last_in : (xs : List Section) (s : Section) → Contains (xs ++ s ∷ []) s
last_in xs s = (length xs, omega (arith, length_push xs s), get_or_push xs s s (length xs) refl)

-- none of the table yet
pub first_nothing : (bytes : List ℕ) → AreFirst bytes 0 []
first_nothing bytes = record {
  code = λ k d below. absurd (omega arith);
  listed = λ i below code some. absurd (omega arith);
  before = λ k d below. absurd (omega arith);
  apart = refl;
}

-- one more section that is listed, and one that is not
pub first_more : (bytes : List ℕ) → IsImage bytes → (n : ℕ) (xs : List Section) (s : Section) → n < section_count bytes → s ≡ section bytes n → is_code_section s ≡ true → IsCodeOf bytes s → AreFirst bytes n xs → AreFirst bytes (n + 1) (xs ++ s ∷ [])
first_more bytes accepted n xs s within is kind of first = record {
  code = All-push (IsCodeOf bytes) xs s first.code of;
  listed = λ i below code some. elim (cases_order i n) [
    | inl same ↦ subst (Contains (xs ++ s ∷ [])) (is ∙ ap (section bytes) (sym same)) (last_in xs s)
    | inr other ↦ elim other [
      | inl less ↦ still_in xs s (section bytes i) (first.listed i less code some)
      | inr more ↦ absurd (omega arith)
    ]
  ];
  before = All-push (λ t. (i : ℕ) × (i < n + 1) × (section bytes i ≡ t) × (is_code_section t ≡ true)) xs s
      (λ k d below. let at = first.before k d below in (at.0, omega (arith, at.1), at.2, at.3))
      (n, omega arith, sym is, kind);
  apart = subst (λ t. any_pair shares_address (xs ++ t ∷ []) ≡ false) (sym is)
      (apart_first bytes accepted n xs within (ap is_code_section (sym is) ∙ kind) first.before first.apart);
}

pub first_none : (bytes : List ℕ) (n : ℕ) (xs : List Section) (s : Section) → s ≡ section bytes n → (is_code_section s ≡ false) ⊎ (s.size < 2) → AreFirst bytes n xs → AreFirst bytes (n + 1) xs
first_none bytes n xs s is not_one first = record {
  code = first.code;
  listed = λ i below code some. elim (cases_order i n) [
    | inl same ↦
        let here : section bytes i ≡ s = ap (section bytes) same ∙ sym is in
        elim not_one [
          | inl data_only ↦ absurd (both_ways (is_code_section s) data_only (sym (ap is_code_section here) ∙ code))
          | inr short ↦ let size : (section bytes i).size ≡ s.size = ap (λ (t : Section). t.size) here in absurd (omega arith)
        ]
    | inr other ↦ elim other [
      | inl less ↦ first.listed i less code some
      | inr more ↦ absurd (omega arith)
    ]
  ];
  before = λ k d below. let at = first.before k d below in (at.0, omega (arith, at.1), at.2, at.3);
  apart = first.apart;
}
