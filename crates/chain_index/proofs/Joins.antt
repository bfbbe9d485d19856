-- Code sections that join: the address behind one's last halfword is code exactly where another begins
-- there, and that one is found before.
use Rattle.std.proofs.Common.{◌≡◌, ℕ, ◌+◌, ◌-◌, ◌*◌, ◌/◌, ◌≤◌, ◌%◌, true, false, List, [], ◌∷◌, ◌++◌, length, get_or, Option, Some, None, is_some, refl, sym, ap, ◌∙◌, subst, arith, inl, inr, eqb}
use Rattle.std.specs.List.{Contains}
use Rattle.std.specs.List.Sorted.{IsNonDecreasingBy}
use Rattle.std.proofs.lemmas.Bool.{cases_order, eqb-true}
use Rattle.std.proofs.lemmas.List.{get_or_push, length_push}
use Rattle.elf_image.specs.declared.section.Section.{Section}
use Rattle.elf_image.specs.Code.{is_even, is_code, code_section_of}
use Rattle.elf_image.proofs.LaidOut.{holds-true}
use Rattle.elf_image.proofs.OneSection.{code_section-is}
use Rattle.chain_index.specs.declared.lookup.SectionReaches.{SectionReaches}
use Rattle.chain_index.specs.Found.{IsCodeOf, BeginsAt}
use Rattle.chain_index.specs.Inner.{AreFoundBut}
use Rattle.chain_index.proofs.CodeSections.{section-half, section-at, code-of, holds-at}

pub one_section : {s t : Section} → Some s ≡ Some t → s ≡ t
one_section e = cc

-- two code sections at one address are one
pub same_start : (bytes : List ℕ) (s t : Section) → IsCodeOf bytes s → IsCodeOf bytes t → s.address ≡ t.address → s ≡ t
same_start bytes s t s_of t_of same =
    let s_at : code_section_of bytes (s.address + 2 * 0) ≡ Some s = section-half bytes s s_of 0 (omega (arith, s_of.some)) in
    let t_at : code_section_of bytes (t.address + 2 * 0) ≡ Some t = section-half bytes t t_of 0 (omega (arith, t_of.some)) in
    one_section (sym s_at ∙ ap (λ a. code_section_of bytes (a + 2 * 0)) same ∙ t_at)

-- the section of the address behind another one begins there
join_start : (bytes : List ℕ) (s t : Section) → IsCodeOf bytes s → IsCodeOf bytes t → code_section_of bytes (s.address + 2 * (s.size / 2)) ≡ Some t → t.address ≡ s.address + 2 * (s.size / 2)
join_start bytes s t s_of t_of found =
    let parts = code_section-is bytes (s.address + 2 * (s.size / 2)) t found in
    let held = holds-true (s.address + 2 * (s.size / 2)) 2 t parts.2 in
    let s_even : s.address % 2 ≡ 0 = eqb-true (s.address % 2) 0 s_of.even in
    let t_even : t.address % 2 ≡ 0 = eqb-true (t.address % 2) 0 t_of.even in
    elim (cases_order t.address (s.address + 2 * (s.size / 2))) [
      | inl same ↦ same
      | inr other ↦ elim other [
        | inl less ↦
            let n : ℕ = s.size / 2 - 1 in
            let inside : 2 * n + 2 ≤ s.size = omega (arith, s_of.some) in
            let s_at = section-half bytes s s_of n inside in
            let t_at = t_of.whole (s.address + 2 * n) (parts-even s_even n) (holds-at (s.address + 2 * n) t (omega (arith, held.0, held.1, s_of.some)) (omega (arith, held.0, held.1, s_of.some))) in
            let one : s ≡ t = one_section (sym s_at ∙ t_at) in
            let start : s.address ≡ t.address = ap (λ (u : Section). u.address) one in
            let size : s.size ≡ t.size = ap (λ (u : Section). u.size) one in
            absurd (omega (arith, held.0, held.1))
        | inr more ↦ absurd (omega (arith, held.0))
      ]
    ]
  where
    parts-even : s.address % 2 ≡ 0 → (n : ℕ) → is_even (s.address + 2 * n) ≡ true
    parts-even even n = let there : (s.address + 2 * n) % 2 ≡ 0 = omega arith in ap (λ m. eqb m 0) there

-- the last of a sorted list has the greatest address
pub last_greatest : (rest : List Section) (s t : Section) → IsNonDecreasingBy (λ (u : Section). u.address) (rest ++ s ∷ []) → Contains (rest ++ s ∷ []) t → t.address ≤ s.address
last_greatest rest s t sorted there =
    let size = length_push rest s in
    let up = sorted there.0 (length rest) t (omega (arith, there.1)) (omega arith) in
    let first : (get_or (rest ++ s ∷ []) there.0 t).address ≡ t.address = ap (λ (u : Section). u.address) there.2 in
    let last : (get_or (rest ++ s ∷ []) (length rest) t).address ≡ s.address = ap (λ (u : Section). u.address) (get_or_push rest s t (length rest) refl) in
    omega (arith, up)

module _ (bytes : List ℕ) (rest : List Section) (s : Section) (found : List SectionReaches) (of : IsCodeOf bytes s) where
  none_there : IsNonDecreasingBy (λ (u : Section). u.address) (rest ++ s ∷ []) → AreFoundBut bytes (rest ++ s ∷ []) found → (e : ℕ) → e ≡ s.address + 2 * (s.size / 2)
      → (BeginsAt found e → ⊥) → (t : Section) → code_section_of bytes e ≡ Some t → ⊥
  none_there sorted but e at none t is =
      let place = section-at bytes e t is in
      let i = place.0 in
      let t_of : IsCodeOf bytes t = subst (IsCodeOf bytes) place.1.is (code-of bytes of.image i place.1.within place.1.code place.1.some) in
      let start : t.address ≡ e = join_start bytes s t of t_of (ap (code_section_of bytes) (sym at) ∙ is) ∙ sym at in
      let some = of.some in
      elim (but i place.1.within place.1.code place.1.some) [
        | inl there ↦
            let low : t.address ≤ s.address = last_greatest rest s t sorted (subst (Contains (rest ++ s ∷ [])) place.1.is there) in
            absurd (omega arith)
        | inr begins ↦ none (begins.0, begins.1, begins.2 ∙ ap (λ (u : Section). u.address) place.1.is ∙ start)
      ]

  -- no code stands behind a section where none is found to begin there
  pub none_behind : IsNonDecreasingBy (λ (u : Section). u.address) (rest ++ s ∷ []) → AreFoundBut bytes (rest ++ s ∷ []) found → (e : ℕ) → e ≡ s.address + 2 * (s.size / 2)
      → (BeginsAt found e → ⊥) → is_code bytes e ≡ false
  none_behind sorted but e at none = cases (code_section_of bytes e) refl
    where
      cases : (o : Option Section) → code_section_of bytes e ≡ o → is_some o ≡ false
      cases None is = refl
      cases (Some t) is = absurd (none_there sorted but e at none t is)
