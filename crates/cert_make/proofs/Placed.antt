-- The places of addresses by their numbers, as far as they are kept.
use Rattle.std.proofs.Common.{◌≡◌, ℕ, ◌+◌, ◌<◌, List, length, get_or, set, refl, sym, ap, ◌∙◌, subst, inl, inr, arith}
use Rattle.std.specs.Prelude.{All, Contains, IsSome}
use Rattle.std.specs.List.Sorted.{IsStrictlyIncreasing}
use Rattle.std.proofs.lemmas.Bool.{cases_eq, cases_order}
use Rattle.std.proofs.lemmas.List.{get_or_default, get_or-set_same, get_or-set_other, length-set}
use Rattle.std.proofs.lemmas.List.Elements.{All-contains}
use Rattle.std.proofs.lemmas.List.Kept.{AllPairs-from_increasing}
use Rattle.cfg_model.specs.Program.Instructions.{InstructionMap}
use Rattle.numbered.specs.Numbering.{IsNumbering}
use Rattle.cert_make.specs.declared.places.Places.{Places}
use Rattle.cert_make.specs.Inner.Places.{ArePlaced, IsAt, at}

pub at_place : (xs : List ℕ) (i : ℕ) → i < length xs → IsAt xs i (at xs i)
at_place xs i lt = record { within = lt; is = refl }

pub listed_at : (xs : List ℕ) (i a : ℕ) → IsAt xs i a → Contains xs a
listed_at xs i a here = (i, here.within, get_or_default xs i a 0 here.within ∙ here.is)

pub place_in : (xs : List ℕ) (a : ℕ) → (listed : Contains xs a) → IsAt xs listed.0 a
place_in xs a listed = record { within = listed.1; is = get_or_default xs listed.0 0 a listed.1 ∙ listed.2 }

module _ (map : InstructionMap) (number : ℕ → ℕ) (xs : List ℕ) where
  -- the first so many addresses are found by their numbers, and nothing else is
  pub record AreKept (count : ℕ) (places : List ℕ) : Type 0 where
    pub numbering : IsNumbering map number (length places)
    pub whole : (j : ℕ) → j < count → get_or places (number (get_or xs j 0)) 0 ≡ j + 1
    pub right : (a j : ℕ) → IsSome (map a) → get_or places (number a) 0 ≡ j + 1 → (j < count) × (get_or xs j 0 ≡ a)

  pub none_kept : (places : List ℕ) → IsNumbering map number (length places) → ((n : ℕ) → get_or places n 0 ≡ 0) → AreKept 0 places
  none_kept places numbering zeros = record {
    numbering = numbering;
    whole = λ j lt. absurd (omega arith);
    right = λ a j known is. absurd (omega (arith, zeros (number a), is));
  }

  module _ (rise : IsStrictlyIncreasing xs) (stand : All (λ a. IsSome (map a)) xs) where
    pub more_kept : (i : ℕ) (old : List ℕ) (s : ℕ) → i < length xs → get_or xs i 0 ≡ s → AreKept i old → AreKept (i + 1) (set old (number s) (i + 1))
    more_kept i old s lt is kept = record {
      numbering = subst (IsNumbering map number) (sym (length-set old (number s) (i + 1))) kept.numbering;
      whole = λ j below. elim (cases_eq j i) [
        | inl e ↦
            let here : get_or xs j 0 ≡ s = ap (λ k. get_or xs k 0) e ∙ is in
            ap (λ a. get_or new (number a) 0) here ∙ there ∙ ap (λ k. k + 1) (sym e)
        | inr ne ↦
            let low : j < i = omega arith in
            let less : get_or xs j 0 < get_or xs i 0 = AllPairs-from_increasing xs rise j i 0 low lt in
            let known : IsSome (map (get_or xs j 0)) = stand j 0 (omega arith) in
            other (number (get_or xs j 0)) (λ same. let equal = kept.numbering.apart (get_or xs j 0) s known stands same in omega (arith, is, equal, less))
            ∙ kept.whole j low
      ];
      right = λ a j known found. elim (cases_eq (number a) (number s)) [
        | inl e ↦
            let same : a ≡ s = kept.numbering.apart a s known stands e in
            let place : j ≡ i = omega (arith, sym found ∙ ap (λ n. get_or new n 0) e ∙ there) in
            (omega arith, ap (λ k. get_or xs k 0) place ∙ is ∙ sym same)
        | inr ne ↦
            let before = kept.right a j known (sym (other (number a) ne) ∙ found) in
            (omega (arith, before.0), before.1)
      ];
    }
      where
        new : List ℕ
        new = set old (number s) (i + 1)

        stands : IsSome (map s)
        stands = subst (λ a. IsSome (map a)) is (stand i 0 lt)

        there : get_or new (number s) 0 ≡ i + 1
        there = get_or-set_same old (number s) (i + 1) 0 (kept.numbering.below s stands)

        other : (n : ℕ) → (n ≡ number s → ⊥) → get_or new n 0 ≡ get_or old n 0
        other n ne = get_or-set_other old (number s) n (i + 1) 0 ne

-- all are kept
pub placed : (map : InstructionMap) (number : ℕ → ℕ) (places : Places) (n : ℕ) → IsStrictlyIncreasing places.addresses.now → All (λ a. IsSome (map a)) places.addresses.now → length places.addresses.now ≡ n → AreKept map number places.addresses.now n places.places.items → ArePlaced map number places
placed map number places n rise stand many kept = record {
  rise = rise;
  stand = λ a listed. All-contains (λ x. IsSome (map x)) places.addresses.now a stand listed;
  numbering = kept.numbering;
  none = λ a known is listed.
      let here = place_in places.addresses.now a listed in
      let found = kept.whole listed.0 (omega (arith, listed.1, many)) in
      absurd (omega (arith, found, ap (λ x. get_or places.places.items (number x) 0) here.is, is));
  some = λ a i known is. let found = kept.right a i known is in record { within = omega (arith, found.0, many); is = found.1 };
}

-- an address stands at one place
pub one_place : (xs : List ℕ) → IsStrictlyIncreasing xs → (i j a : ℕ) → IsAt xs i a → IsAt xs j a → i ≡ j
one_place xs up i j a one other =
    let left : get_or xs i 0 ≡ a = one.is in
    let right : get_or xs j 0 ≡ a = other.is in
    elim (cases_order i j) [
      | inl e ↦ e
      | inr (inl lt) ↦ let less : get_or xs i 0 < get_or xs j 0 = AllPairs-from_increasing xs up i j 0 lt other.within in absurd (omega arith)
      | inr (inr lt) ↦ let less : get_or xs j 0 < get_or xs i 0 = AllPairs-from_increasing xs up j i 0 lt one.within in absurd (omega arith)
    ]
