-- Pairs in a row seen as a map: what it has, and what one more pair and another value do.
use Rattle.std.proofs.Common.{◌≡◌, ℕ, Bool, true, false, refl, List, [], ◌∷◌, ◌++◌, get_or, set, take, subst, sym, ap, ◌∙◌}
use Rattle.std.specs.Prelude.{Option, Some, None, IsSome, is_some, IfSome, IfNone, IsTrue, not, ◌↔◌}
use Rattle.std.specs.Borrow.{Bor}
use Rattle.std.specs.Option.{option_copied}
use Rattle.std.specs.Ordering.{nat_cmp}
use Rattle.std.specs.Cmp.{nat_cmp_total}
use Rattle.std.specs.FinMap as maps
use Rattle.std.specs.FinMap.{find}
use Rattle.address_map.specs.Pairs.{AreApart, IsFirstAt, over}
use Rattle.address_map.specs.Keys.{with_new}
use Rattle.address_map.proofs.Seen.{not_there}
use Rattle.address_map.proofs.PairsInRow.{over_push, over_set, apart_push, apart_set, found_at, pair_there, inside}

over_nothing : {X : Type 0} (es : List (ℕ × X)) → over es (maps.empty {R = nat_cmp}) ≡ maps.from_entries es
over_nothing [] = refl
over_nothing (e ∷ es) = ap (λ m. maps.insert m e.0 e.1) (over_nothing es)

-- an address that is there stays, and one that is not is added
pub added_known : {X : Type 0} (m : maps.FinMap nat_cmp X) (k : ℕ) (v : X) → maps.contains_key m k ≡ true → m ≡ with_new m k v
added_known m k v had = rw had

pub added_new : {X : Type 0} (m : maps.FinMap nat_cmp X) (k : ℕ) (v : X) → maps.contains_key m k ≡ false → maps.insert m k v ≡ with_new m k v
added_new m k v none = rw none

module _ {X : Type 0} (es : List (ℕ × X)) (m : maps.FinMap nat_cmp X) (seen : maps.from_entries es ≡ m) (k : ℕ) where
  pub row_has : find nat_cmp k es ≡ maps.get m k
  row_has = sym (maps.get-from_entries nat_cmp_total es k) ∙ ap (λ n. maps.get n k) seen

  pub place_there : (r : Option ℕ) → IfNone r (find nat_cmp k es ≡ None) → IsSome (maps.get m k) → IsSome r
  place_there None none has = absurd (not_there (maps.get m k) (ap is_some (sym row_has ∙ none)) has)
  place_there (Some i) none has = refl

  pub spot_is_some : (r : Option ℕ) → IfSome r (IsFirstAt nat_cmp es k) → is_some r ≡ true → maps.contains_key m k ≡ true
  spot_is_some None first e = cc e
  spot_is_some (Some i) first e = sym (ap is_some row_has) ∙ ap is_some (found_at es k i first)

  pub spot_is_none : (r : Option ℕ) → IfNone r (find nat_cmp k es ≡ None) → is_some r ≡ false → find nat_cmp k es ≡ None
  spot_is_none None none e = none
  spot_is_none (Some i) none e = cc e

  pub not_in_row : find nat_cmp k es ≡ None → maps.contains_key m k ≡ false
  not_in_row none = ap is_some (sym row_has ∙ none)

  module _ (apart : AreApart nat_cmp es) where
    pub row_pushed : (v : X) → find nat_cmp k es ≡ None → maps.from_entries (es ++ (k, v) ∷ []) ≡ maps.insert m k v
    row_pushed v none =
        sym (over_nothing (es ++ (k, v) ∷ [])) ∙ over_push nat_cmp_total maps.nat_cmp-IsAntisymmetric k v es maps.empty none
        ∙ ap (λ n. maps.insert n k v) (over_nothing es ∙ seen)

    pub pushed_apart : (v : X) → find nat_cmp k es ≡ None → AreApart nat_cmp (es ++ (k, v) ∷ [])
    pushed_apart v none = apart_push nat_cmp_total es k v apart none

    module _ (i : ℕ) (first : IsFirstAt nat_cmp es k i) (pair : ℕ × X) (is : pair ≡ get_or es i pair) where
      key_is : pair.0 ≡ k
      key_is = ap (λ (p : ℕ × X). p.0) (is ∙ pair_there es k i first pair) ∙ sym (maps.nat_cmp-IsAntisymmetric k first.pair.0 first.is)

      pub row_value : maps.get m k ≡ Some pair.1
      row_value = sym row_has ∙ found_at es k i first ∙ ap (λ (p : ℕ × X). Some p.1) (sym (is ∙ pair_there es k i first pair))

      there_is : (d : ℕ × X) → (get_or es i d).0 ≡ pair.0
      there_is d = ap (λ (p : ℕ × X). p.0) (pair_there es k i first d ∙ sym (is ∙ pair_there es k i first pair))

      none_before : find nat_cmp pair.0 (take i es) ≡ None
      none_before = subst (λ q. find nat_cmp q (take i es) ≡ None) (sym key_is) first.first

      pub row_written : (w : X) → maps.from_entries (set es i (pair.0, w)) ≡ maps.insert m k w
      row_written w =
          sym (over_nothing (set es i (pair.0, w)))
          ∙ over_set nat_cmp_total maps.nat_cmp-IsAntisymmetric pair.0 w es maps.empty i pair (inside es k i first) (there_is pair) none_before
          ∙ (λ j. maps.insert ((over_nothing es ∙ seen) j) (key_is j) w)

      pub written_apart : (w : X) → AreApart nat_cmp (set es i (pair.0, w))
      written_apart w =
          apart_set nat_cmp_total maps.nat_cmp-IsAntisymmetric pair.0 w es i pair (inside es k i first) (there_is pair) none_before apart

-- what is held of a map, of the map that it is seen as
pub held : {X : Type 0} (n m : maps.FinMap nat_cmp X) → n ≡ m → (k : ℕ) (o : Option X) → maps.get n k ≡ o → maps.get m k ≡ o
held n m seen k o had = ap (λ x. maps.get x k) (sym seen) ∙ had

-- the answer of an addition
pub is_new : {X : Type 0} (n m : maps.FinMap nat_cmp X) → n ≡ m → (k : ℕ) (new : Bool) → new ≡ not (maps.contains_key n k) → IsTrue new ↔ ¬ IsSome (maps.get m k)
is_new n m seen k new is = by (maps.get m k) (is ∙ ap (λ x. not (is_some (maps.get x k))) seen)
  where
    by : {X : Type 0} (o : Option X) → new ≡ not (is_some o) → IsTrue new ↔ ¬ IsSome o
    by None e = (λ _ has. cc has, λ _. e)
    by (Some x) e = (λ h _. cc (h, e), λ none. absurd (none refl))

-- what an addition left, by its answer
module _ {X : Type 0} (n : maps.FinMap nat_cmp X) (k : ℕ) (v : X) (r : maps.FinMap nat_cmp X) (is : r ≡ with_new n k v) (new : Bool) (answer : new ≡ not (maps.contains_key n k)) where
  no_value : (o : Option X) → new ≡ not (is_some o) → new ≡ true → o ≡ None
  no_value None e is_new_one = refl
  no_value (Some x) e is_new_one = cc (e, is_new_one)

  a_value : (o : Option X) → new ≡ not (is_some o) → new ≡ false → is_some o ≡ true
  a_value None e is_old_one = cc (e, is_old_one)
  a_value (Some x) e is_old_one = refl

  pub none_before_it : new ≡ true → maps.get n k ≡ None
  none_before_it is_new_one = no_value (maps.get n k) answer is_new_one

  pub put_there : new ≡ true → r ≡ maps.insert n k v
  put_there is_new_one = is ∙ sym (added_new n k v (ap is_some (none_before_it is_new_one)))

  pub left_there : new ≡ false → r ≡ n
  left_there is_old_one = is ∙ sym (added_known n k v (a_value (maps.get n k) answer is_old_one))

  pub has_it : new ≡ false → IsSome (maps.get r k)
  has_it is_old_one = ap (λ m. is_some (maps.get m k)) (left_there is_old_one) ∙ a_value (maps.get n k) answer is_old_one

-- what a look-up answered
module _ {X : Type 0} (r : Option (Bor X)) (none : Bool) (is : is_some r ≡ not none) where
  pub none_copied : none ≡ true → option_copied r ≡ None
  none_copied is_new_one = by r is
    where
      by : (o : Option (Bor X)) → is_some o ≡ not none → option_copied o ≡ None
      by None e = refl
      by (Some x) e = cc (e ∙ ap not is_new_one)

  pub some_copied : none ≡ false → IsSome (option_copied r)
  some_copied is_old_one = by r is
    where
      by : (o : Option (Bor X)) → is_some o ≡ not none → IsSome (option_copied o)
      by None e = cc (e ∙ ap not is_old_one)
      by (Some x) e = refl
