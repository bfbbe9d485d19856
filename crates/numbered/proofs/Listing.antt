-- The addresses whose marks are set, listed by number.
use Rattle.std.proofs.Common.{◌≡◌, ℕ, ◌+◌, ◌<◌, ◌≤◌, ◌⊎◌, Bool, true, false, List, length, [], ◌∷◌, ◌++◌, get_or, Some, None, refl, ◌∙◌, sym, subst, inl, inr, ⊎_elim, arith}
use Rattle.std.specs.Prelude.{◌↔◌}
use Rattle.std.specs.List.{AllPairs, Contains}
use Rattle.std.specs.List.Sorted.{IsStrictlyIncreasing}
use Rattle.std.proofs.lemmas.Bool.{cases_order, cases_lt}
use Rattle.std.proofs.lemmas.List.{get_or_past}
use Rattle.std.proofs.lemmas.List.Elements.{Contains-append_left, Contains-get_or, Contains-push, Contains-push_cases}
use Rattle.std.proofs.lemmas.List.Quantifiers.{all_pairs_push}
use Rattle.cfg_model.specs.Program.Instructions.{InstructionMap}
use Rattle.numbered.specs.Numbering.{IsFirstMarked, IsNumbering, NumbersRise, IsMarked, IsMarkedAt, IsMarkedBetween}

-- no address has a mark at or above their end
pub marked_below : (map : InstructionMap) (number : ℕ → ℕ) (marks : List Bool) (a : ℕ) → IsMarked map number marks a → number a < length marks
marked_below map number marks a is = ⊎_elim (λ less. less) (λ past. let none : false ≡ true = sym (get_or_past marks (number a) false past) ∙ is.1 in absurd (cc)) (cases_lt (number a) (length marks))

-- The items are the marked addresses whose numbers are from and more, but below n.
pub record AreListed (map : InstructionMap) (number : ℕ → ℕ) (marks : List Bool) (from n : ℕ) (items : List ℕ) : Type 0 where
  pub rising : AllPairs (λ x y. x < y) items
  pub sound : (a : ℕ) → Contains items a → IsMarkedBetween map number marks from n a
  pub complete : (a : ℕ) → IsMarkedBetween map number marks from n a → Contains items a

-- it begins with nothing
pub listing_begins : (map : InstructionMap) (number : ℕ → ℕ) (marks : List Bool) (from : ℕ) (items : List ℕ) → items ≡ [] → AreListed map number marks from from items
listing_begins map number marks from items none = subst (AreListed map number marks from from) (sym none) (record {
  rising = λ i j d less within. absurd (omega (arith, within));
  sound = λ a there. absurd (omega (arith, there.1));
  complete = λ a is. absurd (omega (arith, is.1, is.2));
})

module _ (map : InstructionMap) (number : ℕ → ℕ) (marks : List Bool) (from n : ℕ) (items : List ℕ) (before : AreListed map number marks from n items) where
  earlier : (a : ℕ) → Contains items a → IsMarkedBetween map number marks from (n + 1) a
  earlier a there = let had = before.sound a there in (had.0, had.1, omega (arith, had.2))

  below_or_at : (a : ℕ) → number a < n + 1 → (number a < n) ⊎ (number a ≡ n)
  below_or_at a low = ⊎_elim (λ less. inl less) (λ more. inr (omega (arith, more, low))) (cases_lt (number a) n)

  pub listing_skips : IsMarkedAt map number marks n None → AreListed map number marks from (n + 1) items
  listing_skips none = record {
    rising = before.rising;
    sound = earlier;
    complete = λ a is. ⊎_elim (λ less. before.complete a (is.0, is.1, less)) (λ same. absurd (none a is.0 same)) (below_or_at a is.2);
  }

  module _ (count : ℕ) (numbering : IsNumbering map number count) (rising : NumbersRise map number) (up : from ≤ n) (a : ℕ) (found : IsMarkedAt map number marks n (Some a)) where
    above : (b : ℕ) → Contains items b → b < a
    above b there =
        let had = before.sound b there in
        elim (cases_order b a) [
          | inl same ↦ let is : number b ≡ number a = subst (λ x. number b ≡ number x) same refl in absurd (omega (arith, is, had.2, found.1))
          | inr other ↦ elim other [
            | inl less ↦ less
            | inr more ↦ let more_too = rising.rise a b found.0.0 had.0.0 more in absurd (omega (arith, more_too, had.2, found.1))
          ]
        ]

    pub listing_takes : AreListed map number marks from (n + 1) (items ++ a ∷ [])
    listing_takes = record {
      rising = all_pairs_push (λ x y. x < y) items a before.rising (λ i d within. above (get_or items i d) (Contains-get_or items i d within));
      sound = λ b there. ⊎_elim (λ had. earlier b had) (λ same. subst (IsMarkedBetween map number marks from (n + 1)) same (found.0, omega (arith, up, found.1), omega (arith, found.1))) (Contains-push_cases items a b there);
      complete = λ b is. ⊎_elim (λ less. Contains-append_left items (a ∷ []) b (before.complete b (is.0, is.1, less)))
          (λ at. subst (Contains (items ++ a ∷ [])) (sym (numbering.apart b a is.0.0 found.0.0 (at ∙ sym found.1))) (Contains-push items a)) (below_or_at b is.2);
    }

  pub listed_rising : IsStrictlyIncreasing items
  listed_rising k within = before.rising k (k + 1) 0 (omega arith) within

  pub listed_between : (count until : ℕ) → IsNumbering map number count → ((k : ℕ) → k < until → k < length marks → k < count → k < n) → n ≤ until ⊎ (n ≡ from) → (a : ℕ)
      → Contains items a ↔ IsMarkedBetween map number marks from until a
  listed_between count until numbering all low a = (
    λ there. let had = before.sound a there in (had.0, had.1, elim low [ inl most ↦ omega (arith, had.2, most) | inr none ↦ absurd (omega (arith, had.1, had.2, none)) ]),
    λ is. before.complete a (is.0, is.1, all (number a) is.2 (marked_below map number marks a is.0) (numbering.below a is.0.0)),
  )

-- all marked addresses are those of all numbers
pub between_all : (map : InstructionMap) (number : ℕ → ℕ) (marks : List Bool) (items : List ℕ) → ((a : ℕ) → Contains items a ↔ IsMarkedBetween map number marks 0 (length marks) a) → (a : ℕ) → Contains items a ↔ IsMarked map number marks a
between_all map number marks items exact a = (λ there. ((exact a).0 there).0, λ is. (exact a).1 (is, omega arith, marked_below map number marks a is))

-- the first one that is found from a number on
pub found_first : (map : InstructionMap) (number : ℕ → ℕ) (marks : List Bool) (from n a : ℕ) → ((b : ℕ) → IsMarked map number marks b → from ≤ number b → n ≤ number b) → from ≤ n → IsMarkedAt map number marks n (Some a) → IsFirstMarked map number marks from (Some a)
found_first map number marks from n a none up found = (found.0, omega (arith, found.1, up), λ b is high. omega (arith, found.1, none b is high))

-- none has the number that was looked at
pub none_at : (map : InstructionMap) (number : ℕ → ℕ) (marks : List Bool) (from n : ℕ) → ((b : ℕ) → IsMarked map number marks b → from ≤ number b → n ≤ number b) → IsMarkedAt map number marks n None → (b : ℕ) → IsMarked map number marks b → from ≤ number b → n + 1 ≤ number b
none_at map number marks from n none here b is high = ⊎_elim (λ less. omega (arith, less)) (λ low. absurd (here b is (omega (arith, none b is high, low)))) (cases_lt n (number b))
