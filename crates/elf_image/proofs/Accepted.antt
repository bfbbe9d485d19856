-- What is known of a file that was accepted.
use Rattle.std.proofs.Common.{◌≡◌, ℕ, ◌+◌, ◌-◌, ◌<◌, ◌≤◌, ◌^◌, Bool, true, false, not, ◌&&◌, List, length, get_or, refl, sym, ap, ◌∙◌, subst, arith, lit<, inl, inr, eqb}
use Rattle.std.specs.List.{find, Contains}
use Rattle.std.specs.Prelude.{IfSome}
use Rattle.std.proofs.lemmas.Bool.{cases_Bool, both_ways, eqb-true, eqb-false, ltb-false, not-false, and_parts}
use Rattle.elf_image.specs.declared.section.Section.{Section}
use Rattle.elf_image.specs.declared.fault.Fault.{Fault}
use Rattle.elf_image.specs.declared.fault.Fault.TheVariants.{TooLarge, Short, NoSections, SectionTable, SectionRange, SectionWrap, Entry}
use Rattle.elf_image.specs.Header as header
use Rattle.elf_image.specs.Sections.{sections, is_code_section, is_read_only_section, is_null, is_nobits, is_progbits, is_allocated, is_executable, is_writable, holds_bytes}
use Rattle.elf_image.specs.Code.{is_code, is_even, code_section_of}
use Rattle.elf_image.specs.ReadOnly.{data_section_of, byte_section_of}
use Rattle.elf_image.specs.FaultTests.{is_too_large, is_short, has_no_sections, is_out_of_file, is_wrapping, has_section_out_of_file, has_wrapping_section, has_entry_outside_code}
use Rattle.elf_image.specs.Faults.{has_fault, first_among, image_faults, first_image_fault, IsImage}
use Rattle.elf_image.specs.Inner.Found.{IsFoundAt}
use Rattle.elf_image.proofs.Finds.{find-cases, any-contained}
use Rattle.elf_image.proofs.FirstFault.{none-at}
use Rattle.elf_image.proofs.LaidOut.{holds-true}

-- a section whose bytes stand in the file and in memory
record IsLoaded (s : Section) : Type 0 where
  not_null : is_null s ≡ false
  not_nobits : is_nobits s ≡ false
  allocated : is_allocated s ≡ true

progbits-loaded : (s : Section) → is_progbits s ≡ true → is_allocated s ≡ true → IsLoaded s
progbits-loaded s progbits allocated =
    let kind = eqb-true s.kind 1 progbits in
    record { not_null = ap (λ k. eqb k 0) kind; not_nobits = ap (λ k. eqb k 8) kind; allocated = allocated }

code-loaded : (s : Section) → is_code_section s ≡ true → IsLoaded s
code-loaded s code =
    let parts = and_parts (is_progbits s && is_allocated s) (is_executable s) code in
    let first = and_parts (is_progbits s) (is_allocated s) parts.0 in
    progbits-loaded s first.0 first.1

read_only-loaded : (s : Section) → is_read_only_section s ≡ true → IsLoaded s
read_only-loaded s read_only =
    let parts = and_parts (is_progbits s && is_allocated s) (not (is_writable s)) read_only in
    let first = and_parts (is_progbits s) (is_allocated s) parts.0 in
    progbits-loaded s first.0 first.1

module _ (bytes : List ℕ) (accepted : IsImage bytes) where
  -- each of the first eighteen faults does not hold
  pub no_fault : (k : ℕ) (f : Fault) → k < 18 → get_or image_faults k f ≡ f → has_fault bytes f ≡ false
  unfolding first_image_fault first_among
  no_fault k f within is = sym (ap (has_fault bytes) is) ∙ none-at (has_fault bytes) image_faults k f accepted within

  pub is_small : length bytes ≤ 67108864
  unfolding has_fault is_too_large
  is_small = ltb-false 67108864 (length bytes) (no_fault 0 TooLarge (lit< tt) refl)

  pub is_long : 64 ≤ length bytes
  unfolding has_fault is_short
  is_long = ltb-false (length bytes) 64 (no_fault 1 Short (lit< tt) refl)

  pub table_fits : has_fault bytes SectionTable ≡ false
  table_fits = no_fault 12 SectionTable (lit< tt) refl

  pub entry_is_code : is_code bytes (header.entry bytes) ≡ true
  unfolding has_fault has_entry_outside_code
  entry_is_code = not-false (is_code bytes (header.entry bytes)) (no_fault 17 Entry (lit< tt) refl)

  -- a section of the file is not out of the file, and does not wrap
  pub is_in_file : (s : Section) → Contains (sections bytes) s → is_out_of_file (length bytes) s ≡ false
  unfolding has_fault has_section_out_of_file
  is_in_file s there = elim (cases_Bool (is_out_of_file (length bytes) s)) [
    | inl out ↦ absurd (both_ways _ (no_fault 13 SectionRange (lit< tt) refl) (any-contained (is_out_of_file (length bytes)) (sections bytes) s there out))
    | inr fits ↦ fits
  ]

  pub is_in_memory : (s : Section) → Contains (sections bytes) s → is_wrapping s ≡ false
  unfolding has_fault has_wrapping_section
  is_in_memory s there = elim (cases_Bool (is_wrapping s)) [
    | inl out ↦ absurd (both_ways _ (no_fault 14 SectionWrap (lit< tt) refl) (any-contained is_wrapping (sections bytes) s there out))
    | inr fits ↦ fits
  ]

  -- bytes in a section of an allocated kind lie in the file and in memory
  found : (test : Section → Bool) → ((s : Section) → test s ≡ true → IsLoaded s) → (a n : ℕ) (s : Section) → Contains (sections bytes) s → (test s && holds_bytes a n s) ≡ true → IsFoundAt bytes a n s
  found test loaded a n s there passes =
      let parts = and_parts (test s) (holds_bytes a n s) passes in
      let l = loaded s parts.0 in
      let held = holds-true a n s parts.1 in
      let in_file = rw (l.not_null, l.not_nobits) at (is_in_file s there) in
      let in_memory = rw l.allocated at (is_in_memory s there) in
      record {
        start = held.0;
        end = held.1;
        in_file = ltb-false (length bytes) (s.offset + s.size) in_file;
        in_memory = omega (arith, ltb-false (2 ^ 64 - 1) (s.address + s.size) in_memory);
      }

  -- what a search among such sections finds
  find-found : (test : Section → Bool) → ((s : Section) → test s ≡ true → IsLoaded s) → (a n : ℕ) → IfSome (find (λ s. test s && holds_bytes a n s) (sections bytes)) (IsFoundAt bytes a n)
  find-found test loaded a n =
      elim (find-cases (λ s. test s && holds_bytes a n s) (sections bytes)) [
        | inl none ↦ subst (λ o. IfSome o (IsFoundAt bytes a n)) (sym none.0) tt
        | inr it ↦ subst (λ o. IfSome o (IsFoundAt bytes a n)) (sym it.1) (found test loaded a n it.0 it.3 it.2)
      ]

  pub code_section-found : (a : ℕ) → IfSome (code_section_of bytes a) (IsFoundAt bytes a 2)
  unfolding code_section_of
  code_section-found a = elim (cases_Bool (is_even a)) [
    | inl even ↦ rw even (find-found is_code_section code-loaded a 2)
    | inr odd ↦ rw odd tt
  ]

  pub data_section-found : (a : ℕ) → IfSome (data_section_of bytes a) (IsFoundAt bytes a 4)
  unfolding data_section_of
  data_section-found a = find-found is_read_only_section read_only-loaded a 4

  pub byte_section-found : (a : ℕ) → IfSome (byte_section_of bytes a) (IsFoundAt bytes a 1)
  unfolding byte_section_of
  byte_section-found a = find-found is_read_only_section read_only-loaded a 1

  pub range_fits : has_fault bytes SectionRange ≡ false
  range_fits = no_fault 13 SectionRange (lit< tt) refl

  pub some_sections : 0 < header.section_count bytes
  unfolding has_fault has_no_sections
  some_sections =
      let some = eqb-false (header.section_count bytes) 0 (no_fault 11 NoSections (lit< tt) refl) in omega arith
