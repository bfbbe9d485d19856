-- Two places of a list whose elements stand in a relation.
use Rattle.std.proofs.Common.{◌≡◌, ◌≢◌, ℕ, suc, zero, ◌<◌, Bool, true, false, List, [], ◌∷◌, length, get_or, refl, sym, ap, ap₂, ◌∙◌, arith, inl, inr}
use Rattle.std.specs.List.{list_any, swap}
use Rattle.std.specs.List.Sorted.{IsPermutation}
use Rattle.std.proofs.lemmas.Bool.{cases_Bool, both_ways, or_cases, or_left, or_right, cases_order, cases_eq, false_from_ne_true}
use Rattle.std.proofs.lemmas.List.Edits.{swapped_from_swap, length-swap}
use Rattle.std.proofs.lemmas.List.Folds.{list_any_at}
use Rattle.std.proofs.lemmas.List.Sorted.{IsPermutation-keeps, IsPermutation-sym}
use Rattle.elf_image.specs.declared.section.Section.{Section}
use Rattle.elf_image.specs.FaultTests.{any_pair}

-- an exchange takes different places from different places
apart : (i j at bt from fro : ℕ) → (at ≡ i → from ≡ j) → (at ≡ j → from ≡ i) → (at ≢ i → at ≢ j → from ≡ at) → (bt ≡ i → fro ≡ j) → (bt ≡ j → fro ≡ i) → (bt ≢ i → bt ≢ j → fro ≡ bt) → from ≡ fro → at ≡ bt
apart i j at bt from fro a b c d e f same =
    elim (cases_eq at i) [
      | inl ai ↦ elim (cases_eq bt i) [
        | inl bi ↦ ai ∙ sym bi
        | inr nbi ↦ elim (cases_eq bt j) [
          | inl bj ↦ ai ∙ sym (e bj) ∙ sym same ∙ a ai ∙ sym bj
          | inr nbj ↦ absurd (nbj (sym (f nbi nbj) ∙ sym same ∙ a ai))
        ]
      ]
      | inr nai ↦ elim (cases_eq at j) [
        | inl aj ↦ elim (cases_eq bt i) [
          | inl bi ↦ aj ∙ sym (d bi) ∙ sym same ∙ b aj ∙ sym bi
          | inr nbi ↦ elim (cases_eq bt j) [
            | inl bj ↦ aj ∙ sym bj
            | inr nbj ↦ absurd (nbi (sym (f nbi nbj) ∙ sym same ∙ b aj))
          ]
        ]
        | inr naj ↦ elim (cases_eq bt i) [
          | inl bi ↦ absurd (naj (sym (c nai naj) ∙ same ∙ d bi))
          | inr nbi ↦ elim (cases_eq bt j) [
            | inl bj ↦ absurd (nai (sym (c nai naj) ∙ same ∙ e bj))
            | inr nbj ↦ sym (c nai naj) ∙ same ∙ f nbi nbj
          ]
        ]
      ]
    ]

module _ (R : Section → Section → Bool) (d : Section) where
  -- two different places whose elements stand in R
  pub record Pair (xs : List Section) : Type 0 where
    pub first : ℕ
    pub second : ℕ
    pub differ : first ≢ second
    pub first_within : first < length xs
    pub second_within : second < length xs
    pub holds : R (get_or xs first d) (get_or xs second d) ≡ true

  -- some element of a list at a place
  place : (p : Section → Bool) (xs : List Section) → list_any p xs ≡ true → (k : ℕ) × (k < length xs) × (p (get_or xs k d) ≡ true)
  place p [] some = absurd (both_ways false refl some)
  place p (x ∷ xs) some =
      elim (or_cases (p x) (list_any p xs) some) [
        | inl here ↦ (0, omega arith, here)
        | inr later ↦ let k = place p xs later in (suc k.0, omega (arith, k.1), k.2)
      ]

  -- a pair in the order of the list
  pub any_pair-at : (xs : List Section) (i j : ℕ) → i < j → j < length xs → R (get_or xs i d) (get_or xs j d) ≡ true → any_pair R xs ≡ true
  any_pair-at [] i j less within holds = absurd (omega arith)
  any_pair-at (x ∷ xs) zero zero less within holds = absurd (omega arith)
  any_pair-at (x ∷ xs) zero (suc j) less within holds =
      or_left (list_any (R x) xs) (any_pair R xs) (list_any_at (R x) xs j d (omega arith) holds)
  any_pair-at (x ∷ xs) (suc i) zero less within holds = absurd (omega arith)
  any_pair-at (x ∷ xs) (suc i) (suc j) less within holds =
      or_right (list_any (R x) xs) (any_pair R xs) (any_pair-at xs i j (omega arith) (omega arith) holds)

  -- a pair of places is one of the pairs that are tried
  pub any_pair-from_pair : ((s t : Section) → R s t ≡ R t s) → (xs : List Section) → Pair xs → any_pair R xs ≡ true
  any_pair-from_pair symmetric xs p =
      elim (cases_order p.first p.second) [
        | inl same ↦ absurd (p.differ same)
        | inr other ↦ elim other [
          | inl less ↦ any_pair-at xs p.first p.second less p.second_within p.holds
          | inr more ↦ any_pair-at xs p.second p.first more p.first_within (symmetric _ _ ∙ p.holds)
        ]
      ]

  -- and the other way round
  pub pair-from_any_pair : (xs : List Section) → any_pair R xs ≡ true → Pair xs
  pair-from_any_pair [] some = absurd (both_ways false refl some)
  pair-from_any_pair (x ∷ xs) some =
      elim (or_cases (list_any (R x) xs) (any_pair R xs) some) [
        | inl here ↦
            let k = place (R x) xs here in
            record { first = 0; second = suc k.0; differ = λ e. omega arith; first_within = omega arith; second_within = omega arith; holds = k.2 }
        | inr later ↦
            let p = pair-from_any_pair xs later in
            record { first = suc p.first; second = suc p.second; differ = λ e. p.differ (omega arith); first_within = omega arith; second_within = omega arith; holds = p.holds }
      ]

  -- where the element at a place stood before an exchange: two places stay two
  record Origin (xs ys : List Section) (i j at : ℕ) : Type 0 where
    pub from : ℕ
    pub within : from < length xs
    pub is : get_or ys at d ≡ get_or xs from d
    pub first : at ≡ i → from ≡ j
    pub second : at ≡ j → from ≡ i
    pub other : at ≢ i → at ≢ j → from ≡ at

  origin : (xs ys : List Section) (i j at : ℕ) → i < length xs → j < length xs → ys ≡ swap xs i j → at < length xs → Origin xs ys i j at
  origin xs ys i j at i_within j_within swapped within =
      let s = swapped_from_swap xs ys i j d i_within j_within swapped in
      elim (cases_eq at i) [
        | inl at_first ↦ record { from = j; within = j_within; is = ap (λ k. get_or ys k d) at_first ∙ s.0; first = λ e. refl; second = λ e. omega arith; other = λ n m. absurd (n at_first) }
        | inr not_first ↦ elim (cases_eq at j) [
          | inl at_second ↦ record { from = i; within = i_within; is = ap (λ k. get_or ys k d) at_second ∙ s.1; first = λ e. absurd (not_first e); second = λ e. refl; other = λ n m. absurd (m at_second) }
          | inr not_second ↦ record { from = at; within = within; is = s.2 at not_first not_second; first = λ e. absurd (not_first e); second = λ e. absurd (not_second e); other = λ n m. refl }
        ]
      ]

  -- an exchange of two elements makes no pair
  pair-swap : (xs : List Section) (i j : ℕ) → i < length xs → j < length xs → Pair (swap xs i j) → Pair xs
  pair-swap xs i j i_within j_within p =
      let same_length = length-swap xs i j in
      let a = origin xs (swap xs i j) i j p.first i_within j_within refl (omega arith) in
      let b = origin xs (swap xs i j) i j p.second i_within j_within refl (omega arith) in
      record { first = a.from; second = b.from; differ = λ e. p.differ (apart i j p.first p.second a.from b.from a.first a.second a.other b.first b.second b.other e); first_within = a.within; second_within = b.within; holds = sym (ap₂ R a.is b.is) ∙ p.holds }

  -- nor does another order of the elements
  pair-permutation : (xs ys : List Section) → IsPermutation xs ys → Pair ys → Pair xs
  pair-permutation xs ys moved =
      IsPermutation-keeps xs (λ zs. Pair zs → Pair xs) (λ p. p) (λ zs i j i_within j_within before p. before (pair-swap zs i j i_within j_within p)) ys moved

  -- whether there is a pair does not depend on the order
  pub any_pair-permutation : ((s t : Section) → R s t ≡ R t s) → (xs ys : List Section) → IsPermutation xs ys → any_pair R ys ≡ any_pair R xs
  any_pair-permutation symmetric xs ys moved =
      elim (cases_Bool (any_pair R xs)) [
        | inl some ↦ any_pair-from_pair symmetric ys (pair-permutation ys xs (IsPermutation-sym xs ys moved) (pair-from_any_pair xs some)) ∙ sym some
        | inr none ↦ false_from_ne_true (any_pair R ys) (λ some. both_ways (any_pair R xs) none (any_pair-from_pair symmetric xs (pair-permutation xs ys moved (pair-from_any_pair ys some)))) ∙ sym none
      ]
