-- Sections that have bytes, of a file where none leaves it.
use Rattle.std.proofs.Common.{◌≡◌, ℕ, ◌+◌, ◌≤◌, true, false, List, length, Some, None, subst, ap, sym, ◌∙◌, eqb, inl, inr}
use Rattle.std.specs.List.{find, Contains}
use Rattle.std.proofs.lemmas.Bool.{cases_Bool, both_ways, eqb-true, ltb-false}
use Rattle.elf_image.specs.declared.section.Section.{Section}
use Rattle.elf_image.specs.declared.fault.Fault.TheVariants.{SectionRange}
use Rattle.elf_image.specs.Sections.{sections}
use Rattle.elf_image.specs.Attributes.{is_attributes}
use Rattle.elf_image.specs.DeclaredTables.{is_declaring}
use Rattle.elf_image.specs.DeclaredNoReturns.{is_declaring_no_returns}
use Rattle.elf_image.specs.FaultTests.{is_out_of_file, has_section_out_of_file}
use Rattle.elf_image.specs.Faults.{has_fault}
use Rattle.elf_image.proofs.Finds.{find-cases, any-contained}

-- a section of a type that is neither SHT_NULL nor SHT_NOBITS
lies-in_file : (bytes : List ℕ) → has_fault bytes SectionRange ≡ false → (s : Section) → Contains (sections bytes) s → eqb s.kind 0 ≡ false → eqb s.kind 8 ≡ false → s.offset + s.size ≤ length bytes
unfolding has_fault has_section_out_of_file
lies-in_file bytes fits s there not_null not_nobits = elim (cases_Bool (is_out_of_file (length bytes) s)) [
  | inl out ↦ absurd (both_ways _ fits (any-contained (is_out_of_file (length bytes)) (sections bytes) s there out))
  | inr within ↦ ltb-false (length bytes) (s.offset + s.size) (rw (not_null, not_nobits) at within)
]

-- one that declares tables
pub declaring-in_file : (bytes : List ℕ) → has_fault bytes SectionRange ≡ false → (s : Section) → Contains (sections bytes) s → is_declaring s ≡ true → s.offset + s.size ≤ length bytes
declaring-in_file bytes fits s there declaring =
    let kind = eqb-true s.kind 0x8CF60001 declaring in
    lies-in_file bytes fits s there (ap (λ k. eqb k 0) kind) (ap (λ k. eqb k 8) kind)

-- one that declares functions that do not return
pub no_returns-in_file : (bytes : List ℕ) → has_fault bytes SectionRange ≡ false → (s : Section) → Contains (sections bytes) s → is_declaring_no_returns s ≡ true → s.offset + s.size ≤ length bytes
no_returns-in_file bytes fits s there declaring =
    let kind = eqb-true s.kind 0x8CF60002 declaring in
    lies-in_file bytes fits s there (ap (λ k. eqb k 0) kind) (ap (λ k. eqb k 8) kind)

-- the first of attributes
pub attributes-in_file : (bytes : List ℕ) → has_fault bytes SectionRange ≡ false → (s : Section) → find is_attributes (sections bytes) ≡ Some s → s.offset + s.size ≤ length bytes
attributes-in_file bytes fits s found = elim (find-cases is_attributes (sections bytes)) [
  | inl none ↦ absurd (differ (sym none.0 ∙ found))
  | inr it ↦
      let same : it.0 ≡ s = some_same (sym it.1 ∙ found) in
      let kind = eqb-true it.0.kind 0x70000003 it.2 in
      subst (λ (t : Section). t.offset + t.size ≤ length bytes) same
      (lies-in_file bytes fits it.0 it.3 (ap (λ k. eqb k 0) kind) (ap (λ k. eqb k 8) kind))
]
  where
    differ : {t : Section} → None ≡ Some t → ⊥
    differ e = cc

    some_same : {t u : Section} → Some t ≡ Some u → t ≡ u
    some_same e = cc
