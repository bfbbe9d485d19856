-- Code sections of an accepted file share no address.
use Rattle.std.proofs.Common.{◌≡◌, ℕ, zero, suc, ◌+◌, ◌<◌, ◌≤◌, Bool, true, false, List, [], ◌∷◌, ◌++◌, length, get_or, refl, ap, ◌∙◌, subst, arith, inl, inr, lit<, max, min}
use Rattle.std.specs.List.{filter, Contains, All, list_any}
use Rattle.std.specs.List.Sorted.{IsNonDecreasingBy}
use Rattle.std.proofs.lemmas.Bool.{cases_Bool, cases_order, both_ways, or_parts, or_from, lt-ltb, false_from_ne_true}
use Rattle.std.proofs.lemmas.List.{get_or_default}
use Rattle.elf_image.specs.declared.section.Section.{Section}
use Rattle.elf_image.specs.declared.fault.Fault.TheVariants.{CodeOverlap}
use Rattle.elf_image.specs.Header.{section_count}
use Rattle.elf_image.specs.Sections.{section, sections, is_code_section}
use Rattle.elf_image.specs.FaultTests.{any_pair, shares_address, has_code_overlap}
use Rattle.elf_image.specs.Faults.{has_fault, IsImage}
use Rattle.elf_image.proofs.Accepted.{no_fault}
use Rattle.elf_image.proofs.Finds.{any-contained}
use Rattle.elf_image.proofs.LaidOut.{no_section}
use Rattle.elf_image.proofs.Pairs.{any_pair-at}
use Rattle.elf_image.proofs.Ranges.{length-sections, get_or-sections}

-- an element that passes a filter's test is kept
kept_by : (test : Section → Bool) (xs : List Section) (s : Section) → Contains xs s → test s ≡ true → Contains (filter test xs) s
kept_by test [] s there passes = absurd (omega (arith, there.1))
kept_by test (x ∷ xs) s (zero, within, is) passes =
    let kept : test x ≡ true = ap test is ∙ passes in rw kept (0, omega arith, is)
kept_by test (x ∷ xs) s (suc k, within, is) passes =
    let rest = kept_by test xs s (k, omega (arith, within), is) passes in
    elim (cases_Bool (test x)) [
      | inl keeps ↦ rw keeps (suc rest.0, omega (arith, rest.1), rest.2)
      | inr drops ↦ rw drops rest
    ]

module _ (R : Section → Section → Bool) where
  -- where no two that pass a test stand in R, no two places of such do
  apart_at : (p : Section → Bool) (xs : List Section) (d : Section) → any_pair R (filter p xs) ≡ false → (i j : ℕ) → i < j → j < length xs → p (get_or xs i d) ≡ true → p (get_or xs j d) ≡ true → R (get_or xs i d) (get_or xs j d) ≡ false
  apart_at p [] d apart i j less below here there = absurd (omega arith)
  apart_at p (x ∷ xs) d apart zero zero less below here there = absurd (omega arith)
  apart_at p (x ∷ xs) d apart zero (suc j) less below here there =
      let parts = or_parts (list_any (R x) (filter p xs)) (any_pair R (filter p xs)) (rw here at apart) in
      let kept = kept_by p xs (get_or xs j d) (j, omega arith, refl_at xs j d (omega arith)) there in
      false_from_ne_true (R x (get_or xs j d)) (λ both. both_ways _ parts.0 (any-contained (R x) (filter p xs) (get_or xs j d) kept both))
    where
      refl_at : (ys : List Section) (k : ℕ) (e : Section) → k < length ys → get_or ys k (get_or ys k e) ≡ get_or ys k e
      refl_at ys k e within = get_or_default ys k (get_or ys k e) e within
  apart_at p (x ∷ xs) d apart (suc i) zero less below here there = absurd (omega arith)
  apart_at p (x ∷ xs) d apart (suc i) (suc j) less below here there =
      let rest : any_pair R (filter p xs) ≡ false = elim (cases_Bool (p x)) [
        | inl keeps ↦ (or_parts (list_any (R x) (filter p xs)) (any_pair R (filter p xs)) (rw keeps at apart)).1
        | inr drops ↦ rw drops at apart
      ] in
      apart_at p xs d rest i j (omega arith) (omega arith) here there

  none_more : (p : Section → Bool) (xs : List Section) (s : Section) → list_any p xs ≡ false → p s ≡ false → list_any p (xs ++ s ∷ []) ≡ false
  none_more p [] s none last = or_from (p s) false last refl
  none_more p (x ∷ xs) s none last =
      let parts = or_parts (p x) (list_any p xs) none in
      or_from (p x) (list_any p (xs ++ s ∷ [])) parts.0 (none_more p xs s parts.1 last)

  -- one more element that stands in R to none of those before
  apart_more : (xs : List Section) (s : Section) → any_pair R xs ≡ false → All (λ t. R t s ≡ false) xs → any_pair R (xs ++ s ∷ []) ≡ false
  apart_more [] s apart others = refl
  apart_more (x ∷ xs) s apart others =
      let parts = or_parts (list_any (R x) xs) (any_pair R xs) apart in
      or_from (list_any (R x) (xs ++ s ∷ [])) (any_pair R (xs ++ s ∷ []))
      (none_more (R x) xs s parts.0 (others 0 x (omega arith)))
      (apart_more xs s parts.1 (λ k d below. others (suc k) d (omega arith)))

-- two sections of the table that hold code share no address
apart_in_table : (bytes : List ℕ) → IsImage bytes → (i j : ℕ) → i < j → j < section_count bytes → is_code_section (section bytes i) ≡ true → is_code_section (section bytes j) ≡ true → shares_address (section bytes i) (section bytes j) ≡ false
unfolding has_fault has_code_overlap
apart_in_table bytes accepted i j less below here there =
    let apart = no_fault bytes accepted 16 CodeOverlap (lit< tt) refl in
    let is_i = get_or-sections bytes i no_section (omega arith) in
    let is_j = get_or-sections bytes j no_section below in
    rw (is_i, is_j) at (apart_at shares_address is_code_section (sections bytes) no_section apart i j less (omega (arith, below, length-sections bytes)) (ap is_code_section is_i ∙ here) (ap is_code_section is_j ∙ there))

-- one more section of the table
pub apart_first : (bytes : List ℕ) → IsImage bytes → (n : ℕ) (xs : List Section) → n < section_count bytes → is_code_section (section bytes n) ≡ true
    → All (λ t. (k : ℕ) × (k < n) × (section bytes k ≡ t) × (is_code_section t ≡ true)) xs → any_pair shares_address xs ≡ false → any_pair shares_address (xs ++ section bytes n ∷ []) ≡ false
apart_first bytes accepted n xs below code before apart =
    apart_more shares_address xs (section bytes n) apart (λ k d within.
    let at = before k d within in
    subst (λ t. shares_address t (section bytes n) ≡ false) at.2
    (apart_in_table bytes accepted at.0 n at.1 below (ap is_code_section at.2 ∙ at.3) code))

-- sections in the order of their addresses that share none rise
pub rise : (xs : List Section) → IsNonDecreasingBy (λ (s : Section). s.address) xs → All (λ (s : Section). 2 ≤ s.size) xs → any_pair shares_address xs ≡ false → (i j : ℕ) (d : Section) → i < j → j < length xs → (get_or xs i d).address < (get_or xs j d).address
rise xs sorted some apart i j d less below =
    let s = get_or xs i d in
    let t = get_or xs j d in
    let up : s.address ≤ t.address = sorted i j d (omega arith) below in
    elim (cases_order s.address t.address) [
      | inl same ↦
          let s_some : 2 ≤ s.size = some i d (omega arith) in
          let t_some : 2 ≤ t.size = some j d below in
          let both : shares_address s t ≡ true = lt-ltb (max s.address t.address) (min (s.address + s.size) (t.address + t.size)) (omega arith) in
          absurd (both_ways _ apart (any_pair-at shares_address d xs i j less below both))
      | inr other ↦ elim other [
        | inl lower ↦ lower
        | inr higher ↦ absurd (omega arith)
      ]
    ]
