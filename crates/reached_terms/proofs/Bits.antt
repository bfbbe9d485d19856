-- Lists of marks, one of which is set.
use Rattle.std.proofs.Common.{◌≡◌, ℕ, ◌+◌, ◌<◌, ◌⊎◌, Bool, true, false, List, length, get_or, set, refl, sym, ◌∙◌, subst, arith, inl, inr, if◌then◌else◌}
use Rattle.std.proofs.lemmas.Bool.{cases_eq, both_ways}
use Rattle.std.proofs.lemmas.List.{get_or-set_same, get_or-set_other, get_or_default}
use Rattle.std.proofs.lemmas.List.Sums.{sum_by-set}
use Rattle.reached_terms.specs.Inner.Marks.{IsOn, count_off}

module _ (marks : List Bool) (n : ℕ) (within : n < length marks) where
  pub on_set : IsOn (set marks n true) n
  on_set = get_or-set_same marks n true false within

  pub on_kept : (m : ℕ) → IsOn marks m → IsOn (set marks n true) m
  on_kept m on = elim (cases_eq m n) [
    | inl same ↦ subst (λ k. IsOn (set marks n true) k) (sym same) on_set
    | inr other ↦ get_or-set_other marks n m true false other ∙ on
  ]

  pub on_cases : (m : ℕ) → IsOn (set marks n true) m → (m ≡ n) ⊎ IsOn marks m
  on_cases m on = elim (cases_eq m n) [
    | inl same ↦ inl same
    | inr other ↦ inr (sym (get_or-set_other marks n m true false other) ∙ on)
  ]

  -- one mark less is not set
  pub one_less : get_or marks n true ≡ false → count_off (set marks n true) + 1 ≡ count_off marks
  one_less off =
      let sum = sum_by-set (λ on. if on then 0 else 1) marks n true true within in
      let one : ◌≡◌ {A = ℕ} (if get_or marks n true then 0 else 1) 1 = rw off refl in
      omega (arith, sum, one)

  pub none_less : get_or marks n true ≡ true → count_off (set marks n true) ≡ count_off marks
  none_less on =
      let sum = sum_by-set (λ on. if on then 0 else 1) marks n true true within in
      let none : ◌≡◌ {A = ℕ} (if get_or marks n true then 0 else 1) 0 = rw on refl in
      omega (arith, sum, none)

  pub is_on : get_or marks n true ≡ true → IsOn marks n
  is_on on = get_or_default marks n false true within ∙ on

-- a mark that was read
pub on_read : (marks : List Bool) (n : ℕ) (b : Bool) → n < length marks → b ≡ get_or marks n b → b ≡ true → IsOn marks n
on_read marks n b within is on = get_or_default marks n false b within ∙ sym is ∙ on

pub off_read : (marks : List Bool) (n : ℕ) (b : Bool) → n < length marks → b ≡ get_or marks n b → b ≡ false → IsOn marks n → ⊥
off_read marks n b within is off on = both_ways b off (is ∙ sym (get_or_default marks n false b within) ∙ on)
