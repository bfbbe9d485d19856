-- Lists that are read and changed at one place.
use Rattle.std.proofs.Common.{◌≡◌, ◌≢◌, ℕ, zero, suc, ◌+◌, ◌<◌, ◌⊎◌, List, [], ◌∷◌, ◌++◌, Some, None, map, length, set, take, sym, refl, ap, ◌∙◌, inl, inr, ⊎_elim, arith}
use Rattle.std.specs.List.{sum_by, slice_get, flat_map}
use Rattle.std.proofs.lemmas.List.Sums.{sum_by-cons, sum_by-append}
use Rattle.std.proofs.lemmas.Option.{same_Some, none-some}
use Rattle.core_state.specs.declared.answer.Name.{Name}
use Rattle.steal_pool.specs.Often.{EachAsOften}

module _ {A : Type 0} where
  pub got_set : (l : List A) (i j : ℕ) (a b : A) → slice_get (set l i a) j ≡ Some b → ((j ≡ i) × (a ≡ b)) ⊎ ((j ≢ i) × (slice_get l j ≡ Some b))
  got_set [] i j a b e = absurd (none-some _ e)
  got_set (x ∷ xs) zero zero a b e = inl (refl, same_Some _ _ e)
  got_set (x ∷ xs) zero (suc j) a b e = inr ((λ h. omega arith), e)
  got_set (x ∷ xs) (suc i) zero a b e = inr ((λ h. omega arith), e)
  got_set (x ∷ xs) (suc i) (suc j) a b e = ⊎_elim (λ t. inl (ap suc t.0, t.1)) (λ t. let n = t.0 in inr ((λ h. n (omega arith)), t.1)) (got_set xs i j a b e)

  pub got_snoc : (l : List A) (a b : A) (j : ℕ) → slice_get (l ++ a ∷ []) j ≡ Some b → (slice_get l j ≡ Some b) ⊎ ((j ≡ length l) × (a ≡ b))
  got_snoc [] a b zero e = inr (refl, same_Some _ _ e)
  got_snoc [] a b (suc j) e = absurd (none-some _ e)
  got_snoc (x ∷ xs) a b zero e = inl e
  got_snoc (x ∷ xs) a b (suc j) e = ⊎_elim (λ t. inl t) (λ t. inr (ap suc t.0, t.1)) (got_snoc xs a b j e)

  pub map_set : {B : Type 0} (f : A → B) (l : List A) (i : ℕ) (a : A) → map f (set l i a) ≡ set (map f l) i (f a)
  map_set f [] i a = refl
  map_set f (x ∷ xs) zero a = refl
  map_set f (x ∷ xs) (suc i) a = ap (λ l. f x ∷ l) (map_set f xs i a)

  pub map_same : {B : Type 0} (f : A → B) (l : List A) (i : ℕ) (a b : A) → slice_get l i ≡ Some a → f b ≡ f a → map f (set l i b) ≡ map f l
  map_same f [] i a b e is = refl
  map_same f (x ∷ xs) zero a b e is = ap (λ y. y ∷ map f xs) (is ∙ ap f (sym (same_Some _ _ e)))
  map_same f (x ∷ xs) (suc i) a b e is = ap (λ l. f x ∷ l) (map_same f xs i a b e is)

  pub sum_got : (f : A → ℕ) (l : List A) (j : ℕ) (v w : A) → slice_get l j ≡ Some v → sum_by f (set l j w) + f v ≡ sum_by f l + f w
  sum_got f [] j v w e = absurd (none-some _ e)
  sum_got f (x ∷ xs) zero v w e = omega (arith, ap f (same_Some _ _ e), sum_by-cons f x xs, sum_by-cons f w xs)
  sum_got f (x ∷ xs) (suc j) v w e = omega (arith, sum_got f xs j v w e, sum_by-cons f x xs, sum_by-cons f x (set xs j w))

  pub take_next : (l : List A) (k : ℕ) (x : A) → slice_get l k ≡ Some x → take (k + 1) l ≡ take k l ++ x ∷ []
  take_next [] k x e = absurd (none-some _ e)
  take_next (y ∷ ys) zero x e = ap (λ z. z ∷ []) (same_Some _ _ e)
  take_next (y ∷ ys) (suc k) x e = let more : suc k + 1 ≡ suc (k + 1) = omega arith in rw more (ap (λ l. y ∷ l) (take_next ys k x e))

  pub got_behind : (l rest : List A) (x : A) → slice_get (l ++ (x ∷ rest)) (length l) ≡ Some x
  got_behind [] rest x = refl
  got_behind (y ∷ ys) rest x = got_behind ys rest x

  pub sum_flat : {B : Type 0} (weight : B → ℕ) (f : A → List B) (l : List A) → sum_by weight (flat_map f l) ≡ sum_by (λ x. sum_by weight (f x)) l
  sum_flat weight f [] = refl
  sum_flat weight f (x ∷ xs) = omega (arith, sum_by-append weight (f x) (flat_map f xs), sum_by-cons (λ y. sum_by weight (f y)) x xs, sum_flat weight f xs)

  pub nothing_in : (l : List A) → length l ≡ 0 → l ≡ []
  nothing_in [] none = refl
  nothing_in (x ∷ xs) none = absurd (omega arith)

  sum_ones : (l : List A) → sum_by (λ (_ : A). 1) l ≡ length l
  sum_ones [] = refl
  sum_ones (x ∷ xs) = omega (arith, sum_by-cons (λ (_ : A). 1) x xs, sum_ones xs)

pub often_length : (xs ys : List Name) → EachAsOften xs ys → length xs ≡ length ys
often_length xs ys often = sym (sum_ones xs) ∙ often (λ _. 1) ∙ sum_ones ys
