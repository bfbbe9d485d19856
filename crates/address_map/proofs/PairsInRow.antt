-- Pairs in a row, read as a map, and a map with such pairs put into it: what they have, and what one more
-- pair and another value of a pair do.
use Rattle.std.proofs.Common.{◌≡◌, ℕ, zero, suc, ◌<◌, Bool, cond, true, false, refl, List, [], ◌∷◌, ◌++◌, length, get_or, set, take, subst, sym, ap, ◌∙◌, arith}
use Rattle.std.specs.Prelude.{Option, Some, None, slice_get}
use Rattle.std.specs.Option.{option_or}
use Rattle.std.specs.declared.cmp.Ordering.{Ordering}
use Rattle.std.specs.Ordering.{eq_by_cmp, is_eq}
use Rattle.std.specs.Cmp.{IsTotalOrder, eq_by_cmp_equiv}
use Rattle.std.specs.FinMap as maps
use Rattle.std.specs.FinMap.{find}
use Rattle.std.specs.FinMap.Entries.{find-append}
use Rattle.std.proofs.lemmas.Option.{slice_get-get_or, get_or_from_slice_get, same_Some}
use Rattle.address_map.specs.Pairs.{AreApart, IsFirstAt, over}
use Rattle.address_map.proofs.OneEntry.{is_equal}

module _ {X : Type 0} where
  pub branch : (b : Bool) (x : X) (s t : Option X) → cond b (Some x) (option_or s t) ≡ option_or (cond b (Some x) s) t
  branch true x s t = refl
  branch false x s t = refl

  pub shadowed : (b : Bool) (x y z : Option X) → cond b x z ≡ cond b x (cond b y z)
  shadowed true x y z = refl
  shadowed false x y z = refl

  pub swapped : (a b : Bool) (x y z : Option X) → (a ≡ true → b ≡ false) → cond a x (cond b y z) ≡ cond b y (cond a x z)
  swapped true true x y z apart = cc (apart refl)
  swapped true false x y z apart = refl
  swapped false b x y z apart = refl

  pub behind : (b : Bool) (x : X) (s t : Option X) → (b ≡ true → s ≡ None) → option_or s (cond b (Some x) t) ≡ cond b (Some x) (option_or s t)
  behind true x s t none = ap (λ o. option_or o (Some x)) (none refl)
  behind false x s t none = refl

  none_left : (b : Bool) (x : X) (o : Option X) → cond b (Some x) o ≡ None → (b ≡ false) × (o ≡ None)
  none_left true x o e = cc e
  none_left false x o e = (refl, e)

  none_from : (b : Bool) (x : X) (o : Option X) → b ≡ false → o ≡ None → cond b (Some x) o ≡ None
  none_from true x o e f = cc e
  none_from false x o e f = f

module _ {K X : Type 0} {R : K → K → Ordering} (total : IsTotalOrder R) where
  -- what stands at a place
  pub none_at : (es : List (K × X)) (q : K) → find R q es ≡ None → (i : ℕ) (d : K × X) → i < length es → eq_by_cmp R q (get_or es i d).0 ≡ false
  none_at [] q none i d below = absurd (omega arith)
  none_at (e ∷ es) q none zero d below = (none_left _ _ _ none).0
  none_at (e ∷ es) q none (suc i) d below = none_at es q (none_left _ _ _ none).1 i d (omega arith)

  -- the key of a place stands nowhere in front of it
  pub new_there : (es : List (K × X)) → AreApart R es → (i : ℕ) (d : K × X) → i < length es → find R (get_or es i d).0 (take i es) ≡ None
  new_there [] apart i d below = absurd (omega arith)
  new_there (e ∷ es) apart zero d below = refl
  new_there (e ∷ es) apart (suc i) d below =
      none_from _ _ _ ((eq_by_cmp_equiv total).symm _ _ ∙ none_at es e.0 apart.0 i d (omega arith)) (new_there es apart.1 i d (omega arith))

  -- a pair is found by its key
  pub stands_there : (es : List (K × X)) → AreApart R es → (i : ℕ) (d : K × X) → i < length es → find R (get_or es i d).0 es ≡ Some (get_or es i d).1
  stands_there [] apart i d below = absurd (omega arith)
  stands_there (e ∷ es) apart zero d below = ap (λ b. cond b (Some e.1) (find R e.0 es)) ((eq_by_cmp_equiv total).refl e.0)
  stands_there (e ∷ es) apart (suc i) d below =
      ap (λ b. cond b (Some e.1) (find R (get_or es i d).0 es)) ((eq_by_cmp_equiv total).symm _ _ ∙ none_at es e.0 apart.0 i d (omega arith))
      ∙ stands_there es apart.1 i d (omega arith)

  pub find_push : (es : List (K × X)) (k : K) (v : X) (q : K) → find R k es ≡ None → find R q (es ++ (k, v) ∷ []) ≡ cond (eq_by_cmp R q k) (Some v) (find R q es)
  find_push es k v q none = find-append R total es k v q none

  pub apart_push : (es : List (K × X)) (k : K) (v : X) → AreApart R es → find R k es ≡ None → AreApart R (es ++ (k, v) ∷ [])
  apart_push [] k v apart none = (refl, tt)
  apart_push (e ∷ es) k v apart none =
      let split = none_left _ _ _ none in
      (find_push es k v e.0 split.1 ∙ none_from _ _ _ ((eq_by_cmp_equiv total).symm _ _ ∙ split.0) apart.0, apart_push es k v apart.1 split.1)

  pub get_over : (es : List (K × X)) (m : maps.FinMap R X) (q : K) → maps.get (over es m) q ≡ option_or (find R q es) (maps.get m q)
  get_over [] m q = refl
  get_over (e ∷ es) m q =
      maps.get-insert total (over es m) e.0 e.1 q ∙ ap (cond (eq_by_cmp R q e.0) (Some e.1)) (get_over es m q) ∙ branch (eq_by_cmp R q e.0) e.1 (find R q es) (maps.get m q)

  -- the first pair of a key, with another value
  module _ (exact : maps.IsAntisymmetric R) (k : K) (v : X) where
    at_other : (b : Bool) (q : K) (x : K) → eq_by_cmp R k x ≡ false → eq_by_cmp R q x ≡ true → eq_by_cmp R q k ≡ b → b ≡ false
    at_other true q x apart same e = cc (sym (subst (λ y. eq_by_cmp R y x ≡ true) (exact q k (is_equal (R q k) e)) same) ∙ apart)
    at_other false q x apart same e = refl

    pub find_set : (es : List (K × X)) (i : ℕ) (d : K × X) → i < length es → (get_or es i d).0 ≡ k → find R k (take i es) ≡ None
        → (q : K) → find R q (set es i (k, v)) ≡ cond (eq_by_cmp R q k) (Some v) (find R q es)
    find_set [] i d below is first q = absurd (omega arith)
    find_set (e ∷ es) zero d below is first q =
        shadowed (eq_by_cmp R q k) (Some v) (Some e.1) (find R q es) ∙ ap (λ x. cond (eq_by_cmp R q k) (Some v) (cond (eq_by_cmp R q x) (Some e.1) (find R q es))) (sym is)
    find_set (e ∷ es) (suc i) d below is first q =
        let split = none_left _ _ _ first in
        ap (cond (eq_by_cmp R q e.0) (Some e.1)) (find_set es i d (omega arith) is split.1 q)
        ∙ swapped (eq_by_cmp R q e.0) (eq_by_cmp R q k) (Some e.1) (Some v) (find R q es) (λ same. at_other _ q e.0 split.0 same refl)

    pub apart_set : (es : List (K × X)) (i : ℕ) (d : K × X) → i < length es → (get_or es i d).0 ≡ k → find R k (take i es) ≡ None → AreApart R es → AreApart R (set es i (k, v))
    apart_set [] i d below is first apart = absurd (omega arith)
    apart_set (e ∷ es) zero d below is first apart = (subst (λ x. find R x es ≡ None) is apart.0, apart.1)
    apart_set (e ∷ es) (suc i) d below is first apart =
        let split = none_left _ _ _ first in
        (find_set es i d (omega arith) is split.1 e.0 ∙ none_from _ _ _ ((eq_by_cmp_equiv total).symm _ _ ∙ split.0) apart.0, apart_set es i d (omega arith) is split.1 apart.1)

    -- the three ways in which a pair is put into the whole
    pub over_push : (es : List (K × X)) (m : maps.FinMap R X) → find R k es ≡ None → over (es ++ (k, v) ∷ []) m ≡ maps.insert (over es m) k v
    over_push es m none =
        maps.same_map total exact _ _
        (λ q. get_over (es ++ (k, v) ∷ []) m q ∙ ap (λ o. option_or o (maps.get m q)) (find_push es k v q none) ∙ sym (branch (eq_by_cmp R q k) v (find R q es) (maps.get m q))
        ∙ ap (cond (eq_by_cmp R q k) (Some v)) (sym (get_over es m q)) ∙ sym (maps.get-insert total (over es m) k v q))

    pub over_set : (es : List (K × X)) (m : maps.FinMap R X) (i : ℕ) (d : K × X) → i < length es → (get_or es i d).0 ≡ k → find R k (take i es) ≡ None
        → over (set es i (k, v)) m ≡ maps.insert (over es m) k v
    over_set es m i d below is first =
        maps.same_map total exact _ _
        (λ q. get_over (set es i (k, v)) m q ∙ ap (λ o. option_or o (maps.get m q)) (find_set es i d below is first q) ∙ sym (branch (eq_by_cmp R q k) v (find R q es) (maps.get m q))
        ∙ ap (cond (eq_by_cmp R q k) (Some v)) (sym (get_over es m q)) ∙ sym (maps.get-insert total (over es m) k v q))

    none_there : (es : List (K × X)) → find R k es ≡ None → (b : Bool) (q : K) → eq_by_cmp R q k ≡ b → b ≡ true → find R q es ≡ None
    none_there es none true q e is = subst (λ y. find R y es ≡ None) (sym (exact q k (is_equal (R q k) e))) none
    none_there es none false q e is = cc is

    pub over_behind : (es : List (K × X)) (m : maps.FinMap R X) → find R k es ≡ None → over es (maps.insert m k v) ≡ maps.insert (over es m) k v
    over_behind es m none =
        maps.same_map total exact _ _
        (λ q. get_over es (maps.insert m k v) q ∙ ap (option_or (find R q es)) (maps.get-insert total m k v q)
        ∙ behind (eq_by_cmp R q k) v (find R q es) (maps.get m q) (λ is. none_there es none (eq_by_cmp R q k) q refl is)
        ∙ ap (cond (eq_by_cmp R q k) (Some v)) (sym (get_over es m q)) ∙ sym (maps.get-insert total (over es m) k v q))

-- a walk along the pairs
module _ {K X : Type 0} (R : K → K → Ordering) (es : List (K × X)) (k : K) (i : ℕ) where
  module _ (e : K × X) (below : i < length es) (is : e ≡ get_or es i e) where
    pub first_found : is_eq (R k e.0) ≡ true → find R k (take i es) ≡ None → IsFirstAt R es k i
    first_found same none = record { pair = e; at = slice_get-get_or es i e below ∙ ap Some (sym is); is = is_equal (R k e.0) same; first = none }

-- the place of the first pair of a key
module _ {K X : Type 0} {R : K → K → Ordering} (es : List (K × X)) (k : K) (i : ℕ) (first : IsFirstAt R es k i) where
  pub inside : i < length es
  inside = within es i first.at
    where
      within : (fs : List (K × X)) (j : ℕ) → slice_get fs j ≡ Some first.pair → j < length fs
      within [] j e = cc e
      within (f ∷ fs) zero e = omega arith
      within (f ∷ fs) (suc j) e = let below = within fs j e in omega arith

  pub pair_there : (d : K × X) → get_or es i d ≡ first.pair
  pair_there d = get_or_from_slice_get es i first.pair d first.at

  pub found_at : find R k es ≡ Some first.pair.1
  found_at = along es i first.at first.first
    where
      along : (fs : List (K × X)) (j : ℕ) → slice_get fs j ≡ Some first.pair → find R k (take j fs) ≡ None → find R k fs ≡ Some first.pair.1
      along [] j e none = cc e
      along (f ∷ fs) zero e none =
          ap (λ (p : K × X). cond (eq_by_cmp R k p.0) (Some p.1) (find R k fs)) (same_Some _ _ e) ∙ ap (λ r. cond (is_eq r) (Some first.pair.1) (find R k fs)) first.is
      along (f ∷ fs) (suc j) e none =
          let split = none_left _ _ _ none in
          ap (λ b. cond b (Some f.1) (find R k fs)) split.0 ∙ along fs j e split.1
