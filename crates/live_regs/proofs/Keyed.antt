-- Items that are found by a key, by which they rise.
use Rattle.std.proofs.Common.{◌≡◌, ℕ, ◌<◌, ◌≤◌, List, length, get_or, Result, Ok, Err, sym, ap, ◌∙◌, inl, inr, arith}
use Rattle.std.specs.List.{AllPairs, Contains}
use Rattle.std.specs.List.Sorted.{IsNonDecreasingBy, IsSearchInRange, IsBinarySearchResult}
use Rattle.std.specs.Ordering.{nat_cmp, ordering_index}
use Rattle.std.specs.Result.{MatchResult}
use Rattle.std.proofs.lemmas.Bool.{cases_eq, cases_lt}
use Rattle.std.proofs.lemmas.Bool.Decides.{nat_tests}
use Rattle.std.proofs.lemmas.Cmp.{ranked}
use Rattle.std.proofs.lemmas.List.{get_or_default}

-- each item has a lesser key than those behind it
abbrev pub RiseBy : {X : Type 0} → (X → ℕ) → List X → Type 0
RiseBy key xs = AllPairs (λ x y. key x < key y) xs

module _ {X : Type 0} (key : X → ℕ) (xs : List X) (up : RiseBy key xs) where
  pub rises : (i j : ℕ) (d : X) → i ≤ j → j < length xs → key (get_or xs i d) ≤ key (get_or xs j d)
  rises i j d le within =
      elim (cases_eq i j) [
        | inl e ↦ let same : key (get_or xs i d) ≡ key (get_or xs j d) = ap (λ k. key (get_or xs k d)) e in omega arith
        | inr ne ↦ let less : key (get_or xs i d) < key (get_or xs j d) = up i j d (omega arith) within in omega arith
      ]

  comparisons_rise : (x : ℕ) → IsNonDecreasingBy (λ y. ordering_index (nat_cmp (key y) x)) xs
  comparisons_rise x = λ i j d le within.
      let less : key (get_or xs i d) ≤ key (get_or xs j d) = rises i j d le within in
      grind (arith, nat_tests)

  -- a search by key ends at the item with this key, or there is none
  pub searched : (x : ℕ) (r : Result ℕ ℕ) → IsSearchInRange r (length xs) → IsBinarySearchResult (λ y. nat_cmp (key y) x) xs r
      → MatchResult r (λ i. (i < length xs) × ((d : X) → key (get_or xs i d) ≡ x)) (λ i. (y : X) → Contains xs y → key y ≡ x → ⊥)
  searched x (Ok i) within equal = (within, λ d. ranked _ x _ (sym (equal d)))
  searched x (Err i) within parted = λ y h e.
      let is : get_or xs h.0 y ≡ y = h.2 in
      let at : key (get_or xs h.0 y) ≡ x = ap key is ∙ e in
      elim (cases_lt h.0 i) [
        | inl lt ↦ let less : key (get_or xs h.0 y) < x = ranked _ x _ (sym ((parted (comparisons_rise x)).0 h.0 y (omega arith) lt)) in omega arith
        | inr le ↦ let more : x < key (get_or xs h.0 y) = ranked _ x _ (sym ((parted (comparisons_rise x)).1 h.0 y le h.1)) in omega arith
      ]

  less_apart : (y z : X) (i j : ℕ) → i < j → j < length xs → get_or xs i y ≡ y → get_or xs j z ≡ z → key y ≡ key z → ⊥
  less_apart y z i j lt within is at e =
      let less : key (get_or xs i y) < key (get_or xs j y) = up i j y lt within in
      let same : get_or xs j y ≡ get_or xs j z = get_or_default xs j y z within in
      let left : key (get_or xs i y) ≡ key y = ap key is in
      let right : key (get_or xs j y) ≡ key z = ap key (same ∙ at) in
      omega arith

  -- a key has one item
  pub one_by_key : (y z : X) → Contains xs y → Contains xs z → key y ≡ key z → y ≡ z
  one_by_key y z h k e =
      elim (cases_eq h.0 k.0) [
        | inl same ↦
            sym h.2 ∙ (ap (λ n. get_or xs n y) same ∙ (get_or_default xs k.0 y z k.1 ∙ k.2))
        | inr ne ↦ elim (cases_lt h.0 k.0) [
          | inl lt ↦ absurd (less_apart y z h.0 k.0 lt k.1 h.2 k.2 e)
          | inr le ↦ absurd (less_apart z y k.0 h.0 (omega arith) h.1 k.2 h.2 (sym e))
        ]
      ]
