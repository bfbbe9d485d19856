-- The entries of a chunk: the way along those of a page, what it finds, and what one more entry and another
-- value of an entry do.
use Rattle.std.proofs.Common.{◌≡◌, ◌≢◌, ℕ, zero, suc, ◌+◌, ◌<◌, ◌≤◌, Bool, cond, true, false, refl, List, [], ◌∷◌, ◌++◌, length, get_or, set, take, subst, sym, ap, ◌∙◌, arith}
use Rattle.std.specs.Prelude.{Option, Some, None, IsSome, is_some, ◌⊎◌}
use mathlib.Core.Logic.{inl, inr}
use Rattle.std.specs.Ordering.{nat_cmp, eq_by_cmp}
use Rattle.std.specs.Cmp.{nat_cmp_total, unsigned_tied}
use Rattle.std.proofs.lemmas.Bool.{eq-eqb}
use Rattle.std.specs.FinMap as maps
use Rattle.std.specs.FinMap.{find}
use Rattle.address_map.proofs.OneEntry.{same_or_other}
use Rattle.address_map.specs.declared.entry.Entry.{Entry}
use Rattle.address_map.specs.Least.{IsLeast, IsAbove}
use Rattle.address_map.specs.Least.{lesser_of}
use Rattle.address_map.specs.inner.Grouped.{page_of}
use Rattle.address_map.specs.Pairs.{AreApart, IsFirstAt}
use Rattle.address_map.specs.inner.Entries.{pairs, links, key_at, before_at, IsUpTo, AreLinked}
use Rattle.address_map.proofs.OneEntry.{is_equal}
use Rattle.address_map.proofs.PairsInRow.{new_there, stands_there, first_found}
use Rattle.address_map.proofs.Leasts.{least_as, least_either}

tied_same : (k : ℕ) → eq_by_cmp nat_cmp k k ≡ true
tied_same k = unsigned_tied k k ∙ eq-eqb k k refl

pub less_or_not : (x y : ℕ) → (x < y) ⊎ (y ≤ x)
less_or_not x y = grind arith

above_or_not : (a : Option ℕ) (k : ℕ) → IsAbove a k ⊎ (¬ IsAbove a k)
above_or_not None k = inl tt
above_or_not (Some a) k = by (less_or_not a k)
  where
    by : (a < k) ⊎ (k ≤ a) → (a < k) ⊎ (a < k → ⊥)
    by (inl less) = inl less
    by (inr not_less) = inr (λ less. omega arith)

-- entries as pairs and as links
module _ {X : Type 0} where
  pub length_pairs : (es : List (Entry X)) → length (pairs es) ≡ length es
  length_pairs [] = refl
  length_pairs (e ∷ es) = ap suc (length_pairs es)

  pub length_links : (es : List (Entry X)) → length (links es) ≡ length es
  length_links [] = refl
  length_links (e ∷ es) = ap suc (length_links es)

  pair_at : (es : List (Entry X)) (i : ℕ) → i < length es → (d : Entry X) (p : ℕ × X) → get_or (pairs es) i p ≡ ((get_or es i d).key, (get_or es i d).value)
  pair_at [] i below d p = absurd (omega arith)
  pair_at (e ∷ es) zero below d p = refl
  pair_at (e ∷ es) (suc i) below d p = pair_at es i (omega arith) d p

  link_at : (es : List (Entry X)) (i : ℕ) → i < length es → (d : Entry X) (p : ℕ × ℕ) → get_or (links es) i p ≡ ((get_or es i d).key, (get_or es i d).before)
  link_at [] i below d p = absurd (omega arith)
  link_at (e ∷ es) zero below d p = refl
  link_at (e ∷ es) (suc i) below d p = link_at es i (omega arith) d p

  pub pair_is : (es : List (Entry X)) (i : ℕ) → i < length es → (e : Entry X) → e ≡ get_or es i e → (e.key, e.value) ≡ get_or (pairs es) i (e.key, e.value)
  pair_is es i below e is = sym (pair_at es i below e (e.key, e.value) ∙ (λ j. ((sym is j).key, (sym is j).value)))

  pub pairs_push : (es : List (Entry X)) (e : Entry X) → pairs (es ++ e ∷ []) ≡ pairs es ++ (e.key, e.value) ∷ []
  pairs_push [] e = refl
  pairs_push (f ∷ es) e = ap (λ ps. (f.key, f.value) ∷ ps) (pairs_push es e)

  pub links_push : (es : List (Entry X)) (e : Entry X) → links (es ++ e ∷ []) ≡ links es ++ (e.key, e.before) ∷ []
  links_push [] e = refl
  links_push (f ∷ es) e = ap (λ ls. (f.key, f.before) ∷ ls) (links_push es e)

  pub pairs_set : (es : List (Entry X)) (i : ℕ) (e : Entry X) → pairs (set es i e) ≡ set (pairs es) i (e.key, e.value)
  pairs_set [] i e = refl
  pairs_set (f ∷ es) zero e = refl
  pairs_set (f ∷ es) (suc i) e = ap (λ ps. (f.key, f.value) ∷ ps) (pairs_set es i e)

  pub links_set : (es : List (Entry X)) (i : ℕ) (d e : Entry X) → e.key ≡ (get_or es i d).key → e.before ≡ (get_or es i d).before → links (set es i e) ≡ links es
  links_set [] i d e key before = refl
  links_set (f ∷ es) zero d e key before = (λ j. (key j, before j) ∷ links es)
  links_set (f ∷ es) (suc i) d e key before = ap (λ ls. (f.key, f.before) ∷ ls) (links_set es i d e key before)

  key_there : (es : List (Entry X)) (i : ℕ) → i < length es → (p : ℕ × X) → (get_or (pairs es) i p).0 ≡ key_at (links es) i
  key_there [] i below p = absurd (omega arith)
  key_there (e ∷ es) zero below p = refl
  key_there (e ∷ es) (suc i) below p = key_there es i (omega arith) p

  -- k is the address at one of the places from that one on
  abbrev pub IsBehind : List (Entry X) → ℕ → ℕ → Type 0
  IsBehind es left k = (i : ℕ) × (left ≤ i) × (i < length es) × (key_at (links es) i ≡ k)

  pub place_of_key : (es : List (Entry X)) (k : ℕ) → IsSome (find nat_cmp k (pairs es)) → IsBehind es 0 k
  place_of_key [] k has = cc has
  place_of_key (e ∷ es) k has = by (eq_by_cmp nat_cmp k e.key) refl has (place_of_key es k)
    where
      by : (b : Bool) → eq_by_cmp nat_cmp k e.key ≡ b → IsSome (cond b (Some e.value) (find nat_cmp k (pairs es))) → (IsSome (find nat_cmp k (pairs es)) → IsBehind es 0 k) → IsBehind (e ∷ es) 0 k
      by true same has rest = (0, omega arith, omega arith, sym (maps.nat_cmp-IsAntisymmetric k e.key (is_equal (nat_cmp k e.key) same)))
      by false other has rest = let there = rest has in (suc there.0, omega arith, omega arith, there.3)

  key_of_place : (es : List (Entry X)) → AreApart nat_cmp (pairs es) → (i : ℕ) → i < length es → (p : ℕ × X) → IsSome (find nat_cmp (key_at (links es) i) (pairs es))
  key_of_place es apart i below p =
      subst (λ k. IsSome (find nat_cmp k (pairs es))) (key_there es i below p)
      (ap is_some (stands_there nat_cmp_total (pairs es) apart i p (omega (arith, below, length_pairs es))))

  -- a walk along the entries of page p: it is behind the first `left` entries, of which the last one lies in p
  pub record IsOnWay (es : List (Entry X)) (p left : ℕ) : Type 0 where
    pub within : left ≤ length es
    pub last : (i : ℕ) → i + 1 ≡ left → page_of (key_at (links es) i) ≡ p

  -- no entry of k lies behind
  pub record IsSought (es : List (Entry X)) (k left : ℕ) : Type 0 where
    pub way : IsOnWay es (page_of k) left
    pub none : (i : ℕ) → left ≤ i → i < length es → key_at (links es) i ≢ k

  -- that is the least address above a of the page of those behind
  abbrev pub IsWanted : List (Entry X) → ℕ → Option ℕ → ℕ → ℕ → Type 0
  IsWanted es p a left k = IsBehind es left k × IsAbove a k × (page_of k ≡ p)

  pub record IsLeastBehind (es : List (Entry X)) (p : ℕ) (a : Option ℕ) (left : ℕ) (least : Option ℕ) : Type 0 where
    pub way : IsOnWay es p left
    pub is : IsLeast (IsWanted es p a left) least

  module _ (upto : List ℕ) (es : List (Entry X)) (linked : AreLinked upto es) where
    way_begins : (p left : ℕ) → left ≡ get_or upto p 0 → IsOnWay es p left
    way_begins p left e = subst (IsOnWay es p) (sym e) (record { within = (linked.table p).within; last = (linked.table p).last })

    -- those of the page that are not passed when it begins
    none_behind : (p left : ℕ) → left ≡ get_or upto p 0 → (i : ℕ) → left ≤ i → i < length es → page_of (key_at (links es) i) ≢ p
    none_behind p left e i from below = (linked.table p).rest i (subst (λ n. n ≤ i) e from) below

    pub sought_first : (k left : ℕ) → left ≡ get_or upto (page_of k) 0 → IsSought es k left
    sought_first k left e = record {
      way = way_begins (page_of k) left e;
      none = λ i from below same. none_behind (page_of k) left e i from below (ap page_of same);
    }

    pub least_first : (p : ℕ) (a : Option ℕ) (left : ℕ) → left ≡ get_or upto p 0 → IsLeastBehind es p a left None
    least_first p a left e = record {
      way = way_begins p left e;
      is = λ k h. none_behind p left e h.0.0 h.0.1 h.0.2 (ap page_of h.0.3 ∙ h.2);
    }

    pub none_sought : (k left : ℕ) → left ≤ 0 → IsSought es k left → find nat_cmp k (pairs es) ≡ None
    none_sought k left all sought = by (find nat_cmp k (pairs es)) (place_of_key es k)
      where
        by : (o : Option X) → (IsSome o → IsBehind es 0 k) → o ≡ None
        by None place = refl
        by (Some x) place = let there = place refl in absurd (sought.none there.0 (omega arith) there.2 there.3)

    pub least_of_page : (p : ℕ) (a : Option ℕ) (left : ℕ) (least : Option ℕ) → left ≤ 0 → IsLeastBehind es p a left least
        → IsLeast (λ k. IsSome (find nat_cmp k (pairs es)) × IsAbove a k × (page_of k ≡ p)) least
    least_of_page p a left least all behind =
        least_as (IsWanted es p a left) (λ k. IsSome (find nat_cmp k (pairs es)) × IsAbove a k × (page_of k ≡ p)) least
        (λ k h. (subst (λ q. IsSome (find nat_cmp q (pairs es))) h.0.3 (has h.0.0 h.0.2), h.1, h.2))
        (λ k h. let there = place_of_key es k h.0 in ((there.0, omega arith, there.2, there.3), h.1, h.2)) behind.is
      where
        has : (i : ℕ) → i < length es → IsSome (find nat_cmp (key_at (links es) i) (pairs es))
        has i below = at (pairs es) (length_pairs es)
          where
            at : (ps : List (ℕ × X)) → length ps ≡ length es → IsSome (find nat_cmp (key_at (links es) i) (pairs es))
            at [] e = absurd (omega arith)
            at (p ∷ ps) e = key_of_place es linked.apart i below p

    -- one step on, from the entry e
    module _ (p left i : ℕ) (e : Entry X) (place : i + 1 ≡ left) (below : i < length es) (is : e ≡ get_or es i e) (way : IsOnWay es p left) where
      link_is : get_or (links es) i (0, 0) ≡ (e.key, e.before)
      link_is = link_at es i below e (0, 0) ∙ (λ j. ((sym is j).key, (sym is j).before))

      key_is : key_at (links es) i ≡ e.key
      key_is = ap (λ (l : ℕ × ℕ). l.0) link_is

      pub page_is : page_of e.key ≡ p
      page_is = ap page_of (sym key_is) ∙ way.last i place

      one_before : IsUpTo (links es) i p e.before
      one_before =
          subst (IsUpTo (links es) i p) (ap (λ (l : ℕ × ℕ). l.1) link_is)
          (subst (λ q. IsUpTo (links es) i q (before_at (links es) i)) (way.last i place) (linked.before i below))

      pub less_left : e.before < left
      less_left = let within = one_before.within in omega arith

      goes_on : IsOnWay es p e.before
      goes_on = record { within = (let within = one_before.within in omega arith); last = one_before.last }

      -- of the page only this one is passed
      one_passed : (j : ℕ) → e.before ≤ j → page_of (key_at (links es) j) ≡ p → (j ≡ i) ⊎ (left ≤ j)
      one_passed j from page = by (same_or_other j i)
        where
          by : (j ≡ i) ⊎ (j ≢ i) → (j ≡ i) ⊎ (left ≤ j)
          by (inl same) = inl same
          by (inr other) = inr (behind (λ before. one_before.rest j from before page) other)
            where
              behind : (j < i → ⊥) → j ≢ i → left ≤ j
              behind not_before other = omega arith

    module _ (k left i : ℕ) (e : Entry X) (place : i + 1 ≡ left) (below : i < length es) (is : e ≡ get_or es i e) (sought : IsSought es k left) where
      pub sought_on : e.key ≢ k → IsSought es k e.before
      sought_on other = record {
        way = goes_on (page_of k) left i e place below is sought.way;
        none = λ j from within same. none j within same (one_passed (page_of k) left i e place below is sought.way j from (ap page_of same));
      }
        where
          none : (j : ℕ) → j < length es → key_at (links es) j ≡ k → (j ≡ i) ⊎ (left ≤ j) → ⊥
          none j within same (inl here) =
              other (sym (key_is (page_of k) left i e place below is sought.way) ∙ ap (key_at (links es)) (sym here) ∙ same)
          none j within same (inr behind) = sought.none j behind within same

      pub found_sought : e.key ≡ k → IsFirstAt nat_cmp (pairs es) k i
      found_sought same =
          first_found nat_cmp (pairs es) k i (e.key, e.value) in_pairs (pair_is es i below e is)
          (ap (λ q. eq_by_cmp nat_cmp q e.key) (sym same) ∙ tied_same e.key)
          (subst (λ q. find nat_cmp q (take i (pairs es)) ≡ None) (ap (λ (q : ℕ × X). q.0) (sym (pair_is es i below e is)) ∙ same)
          (new_there nat_cmp_total (pairs es) linked.apart i (e.key, e.value) in_pairs))
        where
          in_pairs : i < length (pairs es)
          in_pairs = omega (arith, below, length_pairs es)

    module _ (p : ℕ) (a : Option ℕ) (left i : ℕ) (e : Entry X) (place : i + 1 ≡ left) (below : i < length es) (is : e ≡ get_or es i e) (least : Option ℕ) (behind : IsLeastBehind es p a left least) where
      stays : (k : ℕ) → IsWanted es p a left k → IsWanted es p a e.before k
      stays k h = let less = less_left p left i e place below is behind.way in ((h.0.0, omega arith, h.0.2, h.0.3), h.1, h.2)

      itself : IsBehind es e.before e.key
      itself = let less = less_left p left i e place below is behind.way in (i, omega arith, below, key_is p left i e place below is behind.way)

      splits : (k : ℕ) → IsWanted es p a e.before k → IsWanted es p a left k ⊎ ((k ≡ e.key) × IsAbove a k)
      splits k h = by (one_passed p left i e place below is behind.way h.0.0 h.0.1 (ap page_of h.0.3 ∙ h.2))
        where
          by : (h.0.0 ≡ i) ⊎ (left ≤ h.0.0) → IsWanted es p a left k ⊎ ((k ≡ e.key) × IsAbove a k)
          by (inl here) = inr (sym h.0.3 ∙ ap (key_at (links es)) here ∙ key_is p left i e place below is behind.way, h.1)
          by (inr from) = inl ((h.0.0, from, h.0.2, h.0.3), h.1, h.2)

      with_it : IsAbove a e.key → IsLeast (IsWanted es p a e.before) (lesser_of least (Some e.key))
      with_it above =
          least_as (λ k. IsWanted es p a left k ⊎ (k ≡ e.key)) (IsWanted es p a e.before) (lesser_of least (Some e.key))
          (λ k h. elim h [
            | inl was ↦ stays k was
            | inr same ↦ subst (IsWanted es p a e.before) (sym same) (itself, above, page_is p left i e place below is behind.way)
          ])
          (λ k h. elim (splits k h) [ inl was ↦ inl was | inr new ↦ inr new.0 ])
          (least_either (IsWanted es p a left) (λ k. k ≡ e.key) least (Some e.key) behind.is (refl, λ y same. omega arith))

      without_it : ¬ IsAbove a e.key → IsLeast (IsWanted es p a e.before) least
      without_it not_above =
          least_as (IsWanted es p a left) (IsWanted es p a e.before) least stays
          (λ k h. elim (splits k h) [ inl was ↦ was | inr new ↦ absurd (not_above (subst (IsAbove a) new.0 new.1)) ]) behind.is

      pub least_on : (new : Option ℕ) → (IsAbove a e.key → new ≡ lesser_of least (Some e.key)) → (¬ IsAbove a e.key → new ≡ least) → IsLeastBehind es p a e.before new
      least_on new with_new without = record {
        way = goes_on p left i e place below is behind.way;
        is = by (above_or_not a e.key);
      }
        where
          by : IsAbove a e.key ⊎ (¬ IsAbove a e.key) → IsLeast (IsWanted es p a e.before) new
          by (inl above) = subst (IsLeast (IsWanted es p a e.before)) (sym (with_new above)) (with_it above)
          by (inr not_above) = subst (IsLeast (IsWanted es p a e.before)) (sym (without not_above)) (without_it not_above)
