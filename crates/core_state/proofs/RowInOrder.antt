-- Pairs in a row in the order of their keys: a walk to the place of a key, and what a pair put there does.
use Rattle.std.proofs.Common.{◌≡◌, ◌≢◌, ℕ, zero, suc, ◌+◌, ◌<◌, ◌≤◌, Bool, cond, true, false, refl, List, [], ◌∷◌, length, get_or, set, take, subst, sym, ap, ◌∙◌, arith}
use Rattle.std.specs.Prelude.{T, ◌&&◌, Some, None, ◌⊎◌}
use mathlib.Core.Logic.{inl, inr}
use Rattle.std.specs.List.{insert}
use Rattle.std.specs.Option.{option_or}
use Rattle.std.specs.declared.cmp.Ordering.{Ordering}
use Rattle.std.specs.declared.cmp.Ordering.TheVariants.{Less, Equal, Greater}
use Rattle.std.specs.Ordering.{eq_by_cmp, is_eq, is_lt, ordering_reverse}
use Rattle.std.specs.Cmp.{IsTotalOrder, tied_itself}
use Rattle.std.specs.FinMap as maps
use Rattle.std.specs.FinMap.{find}
use Rattle.std.specs.FinMap.Entries.{by_order, put, below_all, find-put}
use Rattle.std.proofs.lemmas.List.{get_or_default}
use Rattle.std.proofs.lemmas.Option.{slice_get-get_or, same_Some}
use Rattle.core_state.specs.Least.{IsLeastBy}
use Rattle.address_map.specs.Pairs.{AreApart, IsFirstAt, over}
use Rattle.core_state.specs.inner.Pairs.{AreRising, IsGapAt}
use Rattle.address_map.proofs.OneEntry.{is_equal}
use Rattle.address_map.proofs.EntriesLinked.{less_or_not}
use Rattle.address_map.proofs.PairsInRow.{branch, get_over, stands_there}

first : (a b : Bool) → T (a && b) → T a
first true b p = tt
first false b p = absurd p

second : (a b : Bool) → T (a && b) → T b
second true b p = p
second false b p = absurd p

less : (o : Ordering) → T (is_lt o) → o ≡ Less
less Less p = refl
less Equal p = absurd p
less Greater p = absurd p

flipped : {K : Type 0} {R : K → K → Ordering} → IsTotalOrder R → (x y : K) (o : Ordering) → R x y ≡ o → R y x ≡ ordering_reverse o
flipped total x y o e = total.antisymm y x ∙ ap ordering_reverse e

module _ {K X : Type 0} {R : K → K → Ordering} (total : IsTotalOrder R) where
  below_at : (x : K) (es : List (K × X)) → T (below_all R x es) → (k : ℕ) (d : K × X) → k < length es → R x (get_or es k d).0 ≡ Less
  below_at x [] h k d below = absurd (omega arith)
  below_at x (e ∷ es) h zero d below = less _ (first _ _ h)
  below_at x (e ∷ es) h (suc k) d below = below_at x es (second _ _ h) k d (omega arith)

  below_none : (x : K) (es : List (K × X)) → T (below_all R x es) → find R x es ≡ None
  below_none x [] h = refl
  below_none x (e ∷ es) h = ap (λ r. cond (is_eq r) (Some e.1) (find R x es)) (less _ (first _ _ h)) ∙ below_none x es (second _ _ h)

  -- no key stands twice where they rise
  rising_apart : (es : List (K × X)) → AreRising R es → AreApart R es
  rising_apart [] h = tt
  rising_apart (e ∷ es) h = (below_none e.0 es (first _ _ h), rising_apart es (second _ _ h))

  -- a later key is higher
  rises : (es : List (K × X)) → AreRising R es → (i k : ℕ) (d : K × X) → i < k → k < length es → R (get_or es i d).0 (get_or es k d).0 ≡ Less
  rises [] h i k d lt below = absurd (omega arith)
  rises (e ∷ es) h zero zero d lt below = absurd (omega arith)
  rises (e ∷ es) h (suc i) zero d lt below = absurd (omega arith)
  rises (e ∷ es) h zero (suc k) d lt below = below_at e.0 es (first _ _ h) k d (omega arith)
  rises (e ∷ es) h (suc i) (suc k) d lt below = rises es (second _ _ h) i k d (omega arith) (omega arith)

  -- a key that is found stands somewhere
  stands : (es : List (K × X)) (q : K) (v : X) → find R q es ≡ Some v → (d : K × X) → (k : ℕ) × (k < length es) × (R q (get_or es k d).0 ≡ Equal) × ((get_or es k d).1 ≡ v)
  stands [] q v e d = cc e
  stands (f ∷ fs) q v e d = by (λ h. stands fs q v h d) (eq_by_cmp R q f.0) refl e
    where
      by : (find R q fs ≡ Some v → (k : ℕ) × (k < length fs) × (R q (get_or fs k d).0 ≡ Equal) × ((get_or fs k d).1 ≡ v)) → (b : Bool) → eq_by_cmp R q f.0 ≡ b
          → cond b (Some f.1) (find R q fs) ≡ Some v → (k : ℕ) × (k < suc (length fs)) × (R q (get_or (f ∷ fs) k d).0 ≡ Equal) × ((get_or (f ∷ fs) k d).1 ≡ v)
      by later true is e = (0, omega arith, is_equal _ is, same_Some _ _ e)
      by later false is e = let s = later e in (suc s.0, omega (arith, s.1), s.2, s.3)

  none_of_all : (es : List (K × X)) (q : K) → ((k : ℕ) (d : K × X) → k < length es → is_eq (R q (get_or es k d).0) ≡ false) → find R q es ≡ None
  none_of_all [] q other = refl
  none_of_all (e ∷ es) q other =
      ap (λ b. cond b (Some e.1) (find R q es)) (other 0 e (omega arith)) ∙ none_of_all es q (λ k d below. other (suc k) d (omega arith))

  none_before : (es : List (K × X)) (q : K) (i : ℕ) → i ≤ length es → ((k : ℕ) (d : K × X) → k < i → R (get_or es k d).0 q ≡ Less) → find R q (take i es) ≡ None
  none_before es q zero within behind = refl
  none_before [] q (suc i) within behind = refl
  none_before (e ∷ es) q (suc i) within behind =
      ap (λ r. cond (is_eq r) (Some e.1) (find R q (take i es))) (flipped total e.0 q Less (behind 0 e (omega arith)))
      ∙ none_before es q i (omega arith) (λ k d below. behind (suc k) d (omega arith))

  -- a walk up to the place of a key
  module _ (es : List (K × X)) (rising : AreRising R es) (q : K) (i : ℕ) (below : i < length es) (d e : K × X) (is : e ≡ get_or es i d)
      (behind : (k : ℕ) (d : K × X) → k < i → R (get_or es k d).0 q ≡ Less) where
    pub walk_found : R e.0 q ≡ Equal → IsFirstAt R es q i
    walk_found same = record { pair = e; at = slice_get-get_or es i d below ∙ ap Some (sym is); is = flipped total e.0 q Equal same; first = none_before es q i (omega arith) behind }

    pub walk_gap : R e.0 q ≡ Greater → IsGapAt R es q i
    walk_gap higher = record { within = omega arith; behind = behind; before = before }
      where
        before : (k : ℕ) (f : K × X) → i ≤ k → k < length es → R q (get_or es k f).0 ≡ Less
        before k f up to = by (less_or_not i k)
          where
            here : R q (get_or es i f).0 ≡ Less
            here = ap (λ (g : K × X). R q g.0) (get_or_default es i f d below ∙ sym is) ∙ flipped total e.0 q Greater higher

            by : (i < k) ⊎ (k ≤ i) → R q (get_or es k f).0 ≡ Less
            by (inr back) = let same : i ≡ k = omega arith in subst (λ j. R q (get_or es j f).0 ≡ Less) same here
            by (inl on) = total.trans q (get_or es i f).0 (get_or es k f).0 here (rises es rising i k f on to)

  -- nothing stands where a key has a gap
  pub gap_none : (es : List (K × X)) (q : K) (i : ℕ) → IsGapAt R es q i → find R q es ≡ None
  gap_none es q i gap = none_of_all es q (λ k d below. by k d below (less_or_not k i))
    where
      by : (k : ℕ) (d : K × X) → k < length es → (k < i) ⊎ (i ≤ k) → is_eq (R q (get_or es k d).0) ≡ false
      by k d below (inl lt) = ap is_eq (flipped total (get_or es k d).0 q Less (gap.behind k d lt))
      by k d below (inr up) = ap is_eq (gap.before k d up below)

  -- a pair in the gap of its key
  pub put_gap : (es : List (K × X)) (q : K) (v : X) (i : ℕ) → IsGapAt R es q i → insert es i (q, v) ≡ put R q v es
  put_gap [] q v zero gap = refl
  put_gap [] q v (suc i) gap = absurd (omega (arith, gap.within))
  put_gap (e ∷ es) q v zero gap = sym (ap (λ r. by_order r ((q, v) ∷ e ∷ es) ((e.0, v) ∷ es) (e ∷ put R q v es)) (gap.before 0 e (omega arith) (omega arith)))
  put_gap (e ∷ es) q v (suc i) gap =
      ap (λ (fs : List (K × X)). e ∷ fs)
      (put_gap es q v i (record { within = omega (arith, gap.within); behind = λ k d lt. gap.behind (suc k) d (omega arith); before = λ k d up to. gap.before (suc k) d (omega arith) (omega arith) }))
      ∙ sym (ap (λ r. by_order r ((q, v) ∷ e ∷ es) ((e.0, v) ∷ es) (e ∷ put R q v es)) (flipped total e.0 q Less (gap.behind 0 e (omega arith))))

  -- a pair over the one of its key
  pub put_there : (es : List (K × X)) → AreRising R es → (q : K) (v : X) (i : ℕ) (d : K × X) → i < length es → (get_or es i d).0 ≡ q → set es i (q, v) ≡ put R q v es
  put_there [] rising q v i d below is = absurd (omega arith)
  put_there (e ∷ es) rising q v zero d below is =
      ap (λ x. (x, v) ∷ es) (sym is)
      ∙ sym (ap (λ r. by_order r ((q, v) ∷ e ∷ es) ((e.0, v) ∷ es) (e ∷ put R q v es)) (ap (λ x. R x e.0) (sym is) ∙ tied_itself total e.0))
  put_there (e ∷ es) rising q v (suc i) d below is =
      ap (λ (fs : List (K × X)). e ∷ fs) (put_there es (second _ _ rising) q v i d (omega arith) is)
      ∙ sym (ap (λ r. by_order r ((q, v) ∷ e ∷ es) ((e.0, v) ∷ es) (e ∷ put R q v es))
      (flipped total e.0 q Less (ap (R e.0) (sym is) ∙ below_at e.0 es (first _ _ rising) i d (omega arith))))

  pub over_put : maps.IsAntisymmetric R → (es : List (K × X)) (m : maps.FinMap R X) (q : K) (v : X) → over (put R q v es) m ≡ maps.insert (over es m) q v
  over_put exact es m q v =
      maps.same_map total exact _ _
      (λ x. get_over total (put R q v es) m x ∙ ap (λ o. option_or o (maps.get m x)) (find-put R total x q v es) ∙ sym (branch (eq_by_cmp R x q) v (find R x es) (maps.get m x))
      ∙ ap (cond (eq_by_cmp R x q) (Some v)) (sym (get_over total es m x)) ∙ sym (maps.get-insert total (over es m) q v x))

-- the first pair with a mark that is false
module _ {K : Type 0} {R : K → K → Ordering} (total : IsTotalOrder R) (exact : maps.IsAntisymmetric R) (es : List (K × Bool)) (rising : AreRising R es) where
  pub first_false : (i : ℕ) → i < length es → (d e : K × Bool) → e ≡ get_or es i d → e.1 ≡ false → ((k : ℕ) (f : K × Bool) → k < i → (get_or es k f).1 ≡ true)
      → IsLeastBy R (λ q. find R q es ≡ Some false) (Some e.0)
  first_false i below d e is untold told = (
    ap (λ (f : K × Bool). find R f.0 es) is ∙ stands_there total es (rising_apart total es rising) i d below ∙ ap (λ (f : K × Bool). Some f.1) (sym is) ∙ ap Some untold,
    λ q h. let s = stands total es q false h d in by q s.0 s.1 s.2 s.3 (less_or_not s.0 i),
  )
    where
      by : (q : K) (k : ℕ) → k < length es → R q (get_or es k d).0 ≡ Equal → (get_or es k d).1 ≡ false → (k < i) ⊎ (i ≤ k) → R e.0 q ≢ Greater
      by q k to same mark (inl lt) = cc (sym mark ∙ told k d lt)
      by q k to same mark (inr up) = up_to (less_or_not i k)
        where
          up_to : (i < k) ⊎ (k ≤ i) → R e.0 q ≢ Greater
          up_to (inl on) = λ h. cc (sym h ∙ ap (R e.0) (exact q _ same) ∙ ap (λ (f : K × Bool). R f.0 (get_or es k d).0) is ∙ rises total es rising i k d on to)
          up_to (inr back) =
              let at : k ≡ i = omega arith in
              λ h. cc (sym h ∙ ap (R e.0) (exact q _ same ∙ ap (λ j. (get_or es j d).0) at ∙ ap (λ (f : K × Bool). f.0) (sym is)) ∙ tied_itself total e.0)

  pub none_false : (i : ℕ) → length es ≤ i → ((k : ℕ) (d : K × Bool) → k < i → (get_or es k d).1 ≡ true) → IsLeastBy R (λ q. find R q es ≡ Some false) None
  none_false i all told q h = by (stands total es q false h (q, false))
    where
      by : (k : ℕ) × (k < length es) × (R q (get_or es k (q, false)).0 ≡ Equal) × ((get_or es k (q, false)).1 ≡ false) → ⊥
      by s = cc (sym s.3 ∙ told s.0 (q, false) (omega (arith, s.1)))

pub told_on : {K : Type 0} (es : List (K × Bool)) (i : ℕ) → i < length es → (d e : K × Bool) → e ≡ get_or es i d → e.1 ≡ true → ((k : ℕ) (f : K × Bool) → k < i → (get_or es k f).1 ≡ true)
    → (k : ℕ) (f : K × Bool) → k < i + 1 → (get_or es k f).1 ≡ true
told_on {K} es i below d e is mark told k f up = by (less_or_not k i)
  where
    by : (k < i) ⊎ (i ≤ k) → (get_or es k f).1 ≡ true
    by (inl lt) = told k f lt
    by (inr back) = let same : k ≡ i = omega arith in subst (λ j. (get_or es j f).1 ≡ true) (sym same) (ap (λ (g : K × Bool). g.1) (get_or_default es i f d below ∙ sym is) ∙ mark)
