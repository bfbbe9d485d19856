-- Ranges that are apart from each other, one added after the other.
use Rattle.std.proofs.Common.{◌≡◌, ℕ, suc, ◌+◌, ◌<◌, ◌≤◌, ◌||◌, Bool, true, false, List, [], ◌∷◌, ◌++◌, length, get_or, take, refl, sym, ap, ◌∙◌, subst, arith, inl, inr, ltb}
use Rattle.std.specs.List.{list_any}
use Rattle.std.specs.List.Sorted.{IsPermutation, IsNonDecreasingBy}
use Rattle.std.proofs.Common.{length-append}
use Rattle.std.proofs.lemmas.Bool.{cases_Bool}
use Rattle.std.proofs.lemmas.Bool.Decides.{nat_tests}
use Rattle.std.proofs.lemmas.List.{get_or_append_left, get_or_push, take_all, get_or_default}
use Rattle.std.proofs.lemmas.List.Quantifiers.{all_pairs_push}
use Rattle.std.proofs.lemmas.List.Folds.{list_any_more}
use Rattle.std.proofs.lemmas.List.Sorted.{list_any-IsPermutation, All-permutation}
use Rattle.rv_machine.specs.declared.extent.Extent.{Extent}
use Rattle.rv_machine.specs.Inner.Extents.{is_inside, AreWhole, AreApart, StartBy, CoverSame}

-- ---- one added

module _ (xs : List Extent) (e : Extent) (apart : AreApart (xs ++ e ∷ [])) where
  long : length (xs ++ e ∷ []) ≡ suc (length xs)
  long = length-append xs (e ∷ []) ∙ omega arith

  -- those before the last
  pub apart-rest : AreApart xs
  apart-rest i j d less within =
      let first = get_or_append_left xs (e ∷ []) d i (omega arith) in
      let second = get_or_append_left xs (e ∷ []) d j within in
      let both = apart i j d less (omega (arith, long)) in
      subst (λ (x : Extent). x.end < (get_or xs j d).start) first
      (subst (λ (y : Extent). (get_or (xs ++ e ∷ []) i d).end < y.start) second both)

  -- the last starts past the ends of these
  pub apart-last : (k : ℕ) (d : Extent) → k < length xs → (get_or xs k d).end < e.start
  apart-last k d within =
      let first = get_or_append_left xs (e ∷ []) d k within in
      let second = get_or_push xs e d (length xs) refl in
      let both = apart k (length xs) d within (omega (arith, long)) in
      subst (λ (x : Extent). x.end < e.start) first
      (subst (λ (y : Extent). (get_or (xs ++ e ∷ []) k d).end < y.start) second both)

-- one that starts where the last did, in its place
pub apart-joined : (old rest new : List Extent) (last e : Extent) → AreApart old → old ≡ rest ++ last ∷ [] → new ≡ rest ++ e ∷ [] → e.start ≡ last.start → AreApart new
apart-joined old rest new last e apart was is same =
    let known = subst AreApart was apart in
    subst AreApart (sym is)
    (all_pairs_push (λ (x y : Extent). x.end < y.start) rest e (apart-rest rest last known)
    (λ k d below. subst (λ n. (get_or rest k d).end < n) (sym same) (apart-last rest last known k d below)))

-- one that starts past the end of the last, behind it
pub apart-pushed : (old rest back new : List Extent) (last e : Extent) → AreApart old → old ≡ rest ++ last ∷ [] → back ≡ rest ++ last ∷ [] → new ≡ back ++ e ∷ [] → last.start ≤ e.start → last.end < e.start → AreApart new
apart-pushed old rest back new last e apart was again is after past =
    let known = subst AreApart was apart in
    let whole : AreApart back = subst AreApart (sym again) known in
    let before = apart-last rest last known in
    subst AreApart (sym is)
    (all_pairs_push (λ (x y : Extent). x.end < y.start) back e whole
    (λ k d below. subst (λ (ys : List Extent). k < length ys → (get_or ys k d).end < e.start) (sym again) (ends k d before) below))
  where
    ends : (k : ℕ) (d : Extent) → ((k : ℕ) (d : Extent) → k < length rest → (get_or rest k d).end < last.start) → k < length (rest ++ last ∷ []) → (get_or (rest ++ last ∷ []) k d).end < e.start
    ends k d before below = elim (cases_Bool (ltb k (length rest))) [
      | inl less ↦
          let here : k < length rest = grind (arith, nat_tests) in
          subst (λ (x : Extent). x.end < e.start) (sym (get_or_append_left rest (last ∷ []) d k here)) (omega (arith, before k d here))
      | inr more ↦
          let at : length rest ≡ k = grind (arith, nat_tests, length-append rest (last ∷ [])) in
          subst (λ (x : Extent). x.end < e.start) (sym (get_or_push rest last d k at)) past
    ]

-- ---- all of a sorted list, one after the other

-- those so far have the addresses of the first i of the sorted ones, and none starts past a later one
pub record IsUnitedSoFar (sorted united : List Extent) (i : ℕ) : Type 0 where
  pub whole : AreWhole united
  pub apart : AreApart united
  pub same : CoverSame united (take i sorted)
  pub rises : (k : ℕ) (d : Extent) → i ≤ k → k < length sorted → StartBy (get_or sorted k d).start united

pub united-none : (sorted united : List Extent) → united ≡ [] → IsUnitedSoFar sorted united 0
united-none sorted united none = record {
  whole = λ k d below. absurd (omega (arith, ap length none));
  apart = λ i j d less below. absurd (omega (arith, ap length none));
  same = λ a. ap (list_any (is_inside a)) none;
  rises = λ k d after within m e below. absurd (omega (arith, ap length none));
}

pub united-more : (sorted old new : List Extent) (i : ℕ) (e : Extent) → IsNonDecreasingBy (λ (x : Extent). x.start) sorted → IsUnitedSoFar sorted old i → i < length sorted → e ≡ get_or sorted i e → AreWhole new → AreApart new → StartBy e.start new → CoverSame new (e ∷ old) → IsUnitedSoFar sorted new (i + 1)
united-more sorted old new i e rising known below is whole apart start same = record {
  whole = whole;
  apart = apart;
  same = λ a.
      same a ∙ ap (λ b. is_inside a e || b) (known.same a)
      ∙ swapped (is_inside a e) (list_any (is_inside a) (take i sorted))
      ∙ ap (λ (x : Extent). list_any (is_inside a) (take i sorted) || is_inside a x) is
      ∙ sym (list_any_more (is_inside a) sorted i e below);
  rises = λ k d after within m f there.
      let later : (get_or sorted i d).start ≤ (get_or sorted k d).start = rising i k d (omega arith) within in
      let here : get_or sorted i d ≡ e = default d in
      let starts : e.start ≤ (get_or sorted k d).start = subst (λ (x : Extent). x.start ≤ (get_or sorted k d).start) here later in
      omega (arith, start m f there);
}
  where
    swapped : (a b : Bool) → (a || b) ≡ (b || a)
    swapped true true = refl
    swapped true false = refl
    swapped false true = refl
    swapped false false = refl

    default : (d : Extent) → get_or sorted i d ≡ e
    default d = get_or_default sorted i d e below ∙ sym is

pub united-all : (extents sorted united : List Extent) (n : ℕ) → IsPermutation extents sorted → length sorted ≤ n → IsUnitedSoFar sorted united n → CoverSame united extents
united-all extents sorted united n moved all known a =
    known.same a ∙ ap (list_any (is_inside a)) (take_all n sorted all) ∙ sym (list_any-IsPermutation (is_inside a) extents sorted moved)

pub whole-sorted : (extents sorted : List Extent) (i : ℕ) (e : Extent) → IsPermutation extents sorted → AreWhole extents → i < length sorted → e ≡ get_or sorted i e → e.start ≤ e.end
whole-sorted extents sorted i e moved whole below is =
    subst (λ (x : Extent). x.start ≤ x.end) (sym is) (All-permutation (λ (x : Extent). x.start ≤ x.end) extents sorted moved whole i e below)

pub last-starts : (old rest : List Extent) (last : Extent) (a : ℕ) → old ≡ rest ++ last ∷ [] → StartBy a old → last.start ≤ a
last-starts old rest last a was known =
    let whole : StartBy a (rest ++ last ∷ []) = subst (StartBy a) was known in
    subst (λ (x : Extent). x.start ≤ a) (get_or_push rest last last (length rest) refl)
    (whole (length rest) last (omega (arith, length-append rest (last ∷ []))))
