-- The first element that passes a test.
use Rattle.std.proofs.Common.{◌≡◌, ℕ, suc, zero, ◌<◌, Bool, true, false, ◌&&◌, List, [], ◌∷◌, length, get_or, Some, None, is_some, refl, sym, ap, ◌∙◌, arith, inl, inr}
use Rattle.std.specs.Prelude.{◌⊎◌}
use Rattle.std.specs.List.{find, filter, list_any, Contains}
use Rattle.std.specs.List.Sorted.{IsPermutation}
use Rattle.std.proofs.lemmas.Bool.{cases_Bool, both_ways, or_parts}
use Rattle.std.proofs.lemmas.List.Folds.{list_any_at}
use Rattle.std.proofs.lemmas.List.Sorted.{Contains-permutation, list_any-IsPermutation}

module _ {X : Type 0} (p : X → Bool) where
  -- the element at i is the first that passes
  pub find-at : (xs : List X) (i : ℕ) (d : X) → i < length xs → ((k : ℕ) → k < i → p (get_or xs k d) ≡ false) → p (get_or xs i d) ≡ true → find p xs ≡ Some (get_or xs i d)
  find-at [] i d within before here = absurd (omega arith)
  find-at (x ∷ xs) zero d within before here = rw here refl
  find-at (x ∷ xs) (suc i) d within before here =
      rw (before 0 (omega arith)) (find-at xs i d (omega arith) (λ k below. before (suc k) (omega arith)) here)

  -- no element passes
  pub find-none : (xs : List X) → list_any p xs ≡ false → find p xs ≡ None
  find-none [] none = refl
  find-none (x ∷ xs) none =
      let parts = or_parts (p x) (list_any p xs) none in rw (parts.0) (find-none xs parts.1)

  -- an element that passes
  pub any-contained : (xs : List X) (x : X) → Contains xs x → p x ≡ true → list_any p xs ≡ true
  any-contained xs x there passes = list_any_at p xs there.0 x there.1 (ap p there.2 ∙ passes)

  -- either no element passes, or one is found that passes
  pub find-cases : (xs : List X) → ((find p xs ≡ None) × (list_any p xs ≡ false)) ⊎ ((x : X) × (find p xs ≡ Some x) × (p x ≡ true) × Contains xs x)
  find-cases [] = inl (refl, refl)
  find-cases (x ∷ xs) =
      elim (cases_Bool (p x)) [
        | inl passes ↦ inr (x, rw passes refl, passes, (0, omega arith, refl))
        | inr fails ↦ elim (find-cases xs) [
          | inl none ↦ inl (rw fails none.0, rw fails none.1)
          | inr found ↦ inr (found.0, rw fails found.1, found.2, (suc found.3.0, omega (arith, found.3.1), found.3.2))
        ]
      ]

  -- the elements that pass are one and the same
  abbrev pub PassesOnce : List X → Type 0
  PassesOnce xs = (x y : X) → Contains xs x → Contains xs y → p x ≡ true → p y ≡ true → x ≡ y

  -- then any order finds it
  pub find-permutation : (xs ys : List X) → IsPermutation xs ys → PassesOnce ys → find p ys ≡ find p xs
  find-permutation xs ys moved once =
      elim (find-cases xs) [
        | inl none ↦ find-none ys (sym (list_any-IsPermutation p xs ys moved) ∙ none.1) ∙ sym none.0
        | inr there ↦ elim (find-cases ys) [
          | inl none ↦ absurd (both_ways (list_any p ys) none.1 (sym (list_any-IsPermutation p xs ys moved) ∙ any-contained xs there.0 there.3 there.2))
          | inr here ↦ here.1 ∙ ap Some (once here.0 there.0 here.3 (Contains-permutation xs ys there.0 moved there.3) here.2 there.2) ∙ sym there.1
        ]
      ]

-- the first that passes two tests, among those that pass the first
pub find-filter : {X : Type 0} (q p r : X → Bool) → ((x : X) → (q x && p x) ≡ r x) → (xs : List X) → find p (filter q xs) ≡ find r xs
find-filter q p r same [] = refl
find-filter q p r same (x ∷ xs) =
    elim (cases_Bool (q x)) [
      | inl passes ↦
          let e : p x ≡ r x = sym (ap (λ b. b && p x) passes) ∙ same x in
          rw (passes, e, find-filter q p r same xs) refl
      | inr fails ↦
          let e : r x ≡ false = sym (same x) ∙ ap (λ b. b && p x) fails in
          rw (fails, e) (find-filter q p r same xs)
    ]

-- whether an element is found
pub is_some-find : {X : Type 0} (p : X → Bool) (xs : List X) → is_some (find p xs) ≡ list_any p xs
is_some-find p [] = refl
is_some-find p (x ∷ xs) = elim (cases_Bool (p x)) [
  | inl passes ↦ rw passes refl
  | inr fails ↦ rw fails (is_some-find p xs)
]
