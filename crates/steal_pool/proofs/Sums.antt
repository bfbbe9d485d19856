-- Sums over a list that changes at one place.
use Rattle.std.proofs.Common.{◌≡◌, ℕ, zero, suc, ◌+◌, ◌≤◌, ◌≢◌, List, [], ◌∷◌, set, sym, refl, ap, arith}
use Rattle.std.specs.List.{sum_by}
use Rattle.std.proofs.lemmas.List.Sums.{sum_by-cons}
use mathlib.Core.Option.{some, some-injective, some-ne-none}
use lib.ListN.{get_elem?}

module _ {A : Type 0} where
  pub sum_set : (f : A → ℕ) (l : List A) (j : ℕ) (v w : A) → get_elem? l j ≡ some v → sum_by f (set l j w) + f v ≡ sum_by f l + f w
  sum_set f [] j v w e = absurd (some-ne-none v (sym e))
  sum_set f (x ∷ xs) zero v w e = omega (arith, ap f (some-injective x v e), sum_by-cons f x xs, sum_by-cons f w xs)
  sum_set f (x ∷ xs) (suc j) v w e = omega (arith, sum_set f xs j v w e, sum_by-cons f x xs, sum_by-cons f x (set xs j w))

  pub term_le : (f : A → ℕ) (l : List A) (j : ℕ) (v : A) → get_elem? l j ≡ some v → f v ≤ sum_by f l
  term_le f [] j v e = absurd (some-ne-none v (sym e))
  term_le f (x ∷ xs) zero v e = omega (arith, ap f (some-injective x v e), sum_by-cons f x xs)
  term_le f (x ∷ xs) (suc j) v e = omega (arith, term_le f xs j v e, sum_by-cons f x xs)

  -- where f is 0 all over, so is g
  zeros : (f g : A → ℕ) (l : List A) → sum_by f l ≡ 0 → ((j : ℕ) (u : A) → get_elem? l j ≡ some u → f u ≡ 0 → g u ≡ 0) → sum_by g l ≡ 0
  zeros f g [] none each = refl
  zeros f g (x ∷ xs) none each =
      let a = sum_by-cons f x xs in let b = sum_by-cons g x xs in
      let here : g x ≡ 0 = each 0 x refl (omega arith) in
      let there : sum_by g xs ≡ 0 = zeros f g xs (omega arith) (λ j u e. each (suc j) u e) in
      omega arith

  -- where one has all of f, it has all of g, which is 0 where f is
  pub sum_only : (f g : A → ℕ) (l : List A) (j : ℕ) (v : A) → get_elem? l j ≡ some v → sum_by f l ≡ f v
      → ((k : ℕ) (u : A) → get_elem? l k ≡ some u → f u ≡ 0 → g u ≡ 0) → sum_by g l ≡ g v
  sum_only f g [] j v at all each = absurd (some-ne-none v (sym at))
  sum_only f g (x ∷ xs) zero v at all each =
      let is : x ≡ v = some-injective x v at in
      let a = sum_by-cons f x xs in let b = sum_by-cons g x xs in
      let none : sum_by f xs ≡ 0 = omega (arith, ap f is) in
      omega (arith, ap g is, zeros f g xs none (λ k u e. each (suc k) u e))
  sum_only f g (x ∷ xs) (suc j) v at all each =
      let a = sum_by-cons f x xs in let b = sum_by-cons g x xs in let c = term_le f xs j v at in
      let none : f x ≡ 0 = omega arith in
      let here : g x ≡ 0 = each 0 x refl none in
      let rest : sum_by f xs ≡ f v = omega arith in
      omega (arith, sum_only f g xs j v at rest (λ k u e. each (suc k) u e))
