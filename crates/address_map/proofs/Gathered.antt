-- What the entries of an address map are read as, gathered in a list one after another.
use Rattle.std.proofs.Common.{◌≡◌, ℕ, ◌+◌, ◌<◌, ◌≤◌, ◌≢◌, ◌↔◌, ◌⊎◌, inl, inr, ⊎_elim, Bool, cond, true, false, refl, List, [], ◌∷◌, ◌++◌, length, get_or, drop, subst, sym, ap, ◌∙◌, arith, Contains}
use Rattle.std.specs.Prelude.{Some}
use Rattle.std.specs.Ordering.{nat_cmp, eq_by_cmp}
use Rattle.std.specs.FinMap as maps
use Rattle.std.specs.FinMap.{find}
use Rattle.std.proofs.lemmas.List.{at_drop_more, drop_all, get_or_read}
use Rattle.std.proofs.lemmas.List.Elements.{Contains-append_left, Contains-push, Contains-push_cases}
use Rattle.std.proofs.lemmas.Option.{same_Some}
use Rattle.address_map.specs.Joined.{joined}
use Rattle.address_map.specs.Read.{IsRead, IsReadInto}
use Rattle.address_map.specs.inner.Grouped.{side_of, AreParts}
use Rattle.address_map.proofs.AmongParts.{in_parts}
use Rattle.address_map.proofs.NearAndFar.{found_near, found_far, found_parted}
use Rattle.address_map.proofs.OneEntry.{is_equal, same_or_other}
use Rattle.address_map.proofs.PairsKept.{row_has}

-- the value of an address is read as it
abbrev pub reads_as : {X A : Type 0} → (ℕ → X → A) → ℕ → X → A → Type 0
reads_as read k entry it = read k entry ≡ it

-- A list of these holds what it held before and some of what is to be read, of which the rest is ahead.
pub record AreGathered {A : Type 0} (Old All New Ahead : A → Type 0) : Type 0 where
  pub kept : (it : A) → Old it → New it
  pub only : (it : A) → New it → Old it ⊎ All it
  pub rest : (it : A) → All it → New it ⊎ Ahead it

module _ {A : Type 0} (Old All : A → Type 0) where
  pub none_gathered : (Ahead : A → Type 0) → ((it : A) → All it → Ahead it) → AreGathered Old All Old Ahead
  none_gathered Ahead ahead = record { kept = λ it old. old; only = λ it old. inl old; rest = λ it all. inr (ahead it all) }

  pub more_gathered : (New Ahead Here More Later : A → Type 0) → AreGathered Old All New Ahead → ((it : A) → More it ↔ (New it ⊎ Here it)) → ((it : A) → Here it → All it) → ((it : A) → Ahead it → Here it ⊎ Later it) → AreGathered Old All More Later
  more_gathered New Ahead Here More Later before adds own parts = record {
    kept = λ it old. (adds it).1 (inl (before.kept it old));
    only = λ it more. ⊎_elim (before.only it) (λ here. inr (own it here)) ((adds it).0 more);
    rest = λ it all. ⊎_elim
        (λ new. inl ((adds it).1 (inl new)))
        (λ ahead. ⊎_elim (λ here. inl ((adds it).1 (inr here))) (λ later. inr later) (parts it ahead))
        (before.rest it all);
  }

  pub all_gathered : (New Ahead : A → Type 0) → AreGathered Old All New Ahead → ((it : A) → ¬ Ahead it) → (it : A) → New it ↔ (Old it ⊎ All it)
  all_gathered New Ahead are none it = (are.only it, ⊎_elim (are.kept it) (λ all. ⊎_elim (λ new. new) (λ ahead. absurd (none it ahead)) (are.rest it all)))

pub one_pushed : {A : Type 0} (xs : List A) (x it : A) → Contains (xs ++ x ∷ []) it ↔ (Contains xs it ⊎ (x ≡ it))
one_pushed xs x it = (Contains-push_cases xs x it, ⊎_elim (Contains-append_left xs (x ∷ []) it) (λ same. subst (Contains (xs ++ x ∷ [])) same (Contains-push xs x)))

module _ {X A : Type 0} (read : ℕ → X → A) where
  -- one of these pairs is read as it
  abbrev pub IsReadOf : List (ℕ × X) → A → Type 0
  IsReadOf [] it = ⊥
  IsReadOf (e ∷ es) it = (read e.0 e.1 ≡ it) ⊎ IsReadOf es it

  read_of_found : (es : List (ℕ × X)) (k : ℕ) (entry : X) → find nat_cmp k es ≡ Some entry → (it : A) → read k entry ≡ it → IsReadOf es it
  read_of_found [] k entry has it is = cc
  read_of_found (e ∷ es) k entry has it is = by (eq_by_cmp nat_cmp k e.0) refl has (λ later. read_of_found es k entry later it is)
    where
      by : (b : Bool) → eq_by_cmp nat_cmp k e.0 ≡ b → cond b (Some e.1) (find nat_cmp k es) ≡ Some entry → (find nat_cmp k es ≡ Some entry → IsReadOf es it) → IsReadOf (e ∷ es) it
      by true same here rest =
          inl (subst (λ j. read j e.1 ≡ it) (maps.nat_cmp-IsAntisymmetric k e.0 (is_equal (nat_cmp k e.0) same)) (ap (read k) (same_Some e.1 entry here) ∙ is))
      by false other later rest = inr (rest later)

  -- the pairs of a chunk
  module _ (es : List (ℕ × X)) where
    pub pairs_ahead : (m : maps.FinMap nat_cmp X) → maps.from_entries es ≡ m → (it : A) → IsRead read m it → IsReadOf es it
    pairs_ahead m seen it found = read_of_found es found.key found.entry (row_has es m seen found.key ∙ found.has) it found.there

    pub pair_or_later : (n : ℕ) (e : ℕ × X) → n < length es → e ≡ get_or es n e → (it : A) → IsReadOf (drop n es) it → (read e.0 e.1 ≡ it) ⊎ IsReadOf (drop (n + 1) es) it
    pair_or_later n e below is it ahead =
        subst (λ (p : ℕ × X). (read p.0 p.1 ≡ it) ⊎ IsReadOf (drop (n + 1) es) it) (sym is)
        (subst (λ (rest : List (ℕ × X)). IsReadOf rest it) (at_drop_more (λ (rest : List (ℕ × X)). rest) es n e below) ahead)

    pub no_pairs : (n : ℕ) → length es ≤ n → (it : A) → ¬ IsReadOf (drop n es) it
    no_pairs n all it ahead = subst (λ rest. IsReadOf rest it) (drop_all n es all) ahead

  -- the chunks of a region
  module _ (parts : List (maps.FinMap nat_cmp X)) where
    -- it is read in one of these parts from the n-th on
    abbrev pub IsReadFrom : ℕ → A → Type 0
    IsReadFrom n it = (i : ℕ) × (n ≤ i) × (i < length parts) × IsRead read (get_or parts i maps.empty) it

    pub parts_ahead : (home : ℕ → ℕ) → AreParts home parts → (m : maps.FinMap nat_cmp X) → joined parts ≡ m → (it : A) → IsRead read m it → IsReadFrom 0 it
    parts_ahead home are m seen it found =
        let there = in_parts (reads_as read) home parts are m seen it found in
        (there.part, omega arith, there.within, there.there)

    pub part_or_later : (n : ℕ) (part : maps.FinMap nat_cmp X) → n < length parts → part ≡ get_or parts n part → (it : A) → IsReadFrom n it → IsRead read part it ⊎ IsReadFrom (n + 1) it
    part_or_later n part within is it ahead = by (same_or_other ahead.0 n)
      where
        by : (ahead.0 ≡ n) ⊎ (ahead.0 ≢ n) → IsRead read part it ⊎ IsReadFrom (n + 1) it
        by (inl same) = inl (subst (λ m. IsRead read m it) (ap (λ i. get_or parts i maps.empty) same ∙ sym (get_or_read parts n part within is maps.empty)) ahead.3)
        by (inr other) = inr (ahead.0, omega (arith, other, ahead.1), ahead.2, ahead.3)

    pub no_parts : (n : ℕ) → length parts ≤ n → (it : A) → ¬ IsReadFrom n it
    no_parts n all it ahead = omega (arith, all, ahead.1, ahead.2)

-- what is read in the near addresses and then in the far ones is read in the map
module _ {X A : Type 0} (n : ℕ) (near far m : maps.FinMap nat_cmp X) (are : AreParts (side_of n) (near ∷ far ∷ [])) (seen : joined (near ∷ far ∷ []) ≡ m) (read : ℕ → X → A) where
  pub read_both : (none some all : List A) → none ≡ [] → IsReadInto read near none some → IsReadInto read far some all → (it : A) → Contains all it ↔ IsRead read m it
  read_both none some all empty first second it = (
    λ there. ⊎_elim
        (λ before. ⊎_elim (λ old. absurd (nothing old)) (found_near n near far m are seen (reads_as read) it) ((first it).0 before))
        (found_far n near far m are seen (reads_as read) it)
        ((second it).0 there),
    λ is. (second it).1 (⊎_elim (λ here. inl ((first it).1 (inr here))) (λ there. inr there) (found_parted n near far m are seen (reads_as read) it is)),
  )
    where
      nothing : Contains none it → ⊥
      nothing old = let below : old.0 < 0 = subst (λ (xs : List A). old.0 < length xs) empty old.1 in omega (arith, below)
