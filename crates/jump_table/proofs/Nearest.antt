-- A search back from a jump, step by step.
use Rattle.std.proofs.Common.{◌≡◌, ℕ, zero, suc, ◌+◌, ◌-◌, ◌<◌, ◌≤◌, Bool, true, false, cond, Option, Some, None, is_some, refl, sym, ap, ◌∙◌, inl, inr, arith}
use Rattle.std.specs.Prelude.{nat_le, IsTrue}
use Rattle.std.proofs.lemmas.Bool.{cases_lt}
use Rattle.std.proofs.lemmas.Bool.Decides.{nat_tests}
use Rattle.jump_table.specs.Nearest.{evens, nearest}

-- what a test of an address that lies before the section says if it fails
pub not_before : (b : Bool) (x y : ℕ) → (x < y → IsTrue b) → b ≡ false → y ≤ x
not_before b x y says fails =
    elim (cases_lt x y) [
      | inl less ↦ absurd (clash (sym fails ∙ says less))
      | inr more ↦ more
    ]
  where
    clash : false ≡ true → ⊥
    clash e = cc

module _ {A : Type 0} (at : ℕ → Option A) (start j : ℕ) where
  -- the first answer at n distances, from the distance `back` on
  unfoldable pub nearest_from : ℕ → ℕ → Option A
  nearest_from back n = nearest at start j (evens back n)

  -- the answer that is there, or else what is found further away
  abbrev or_else : Option A → Option A → Option A
  or_else o further = elim o [ Some answer ↦ Some answer | None ↦ further ]

  no_distance : (back : ℕ) → nearest_from back 0 ≡ None
  unfolding nearest_from evens
  no_distance back = refl

  at_distance : ℕ → Option A
  at_distance back = cond (nat_le (start + back) j) (at (j - back)) None

  step : (back n : ℕ) → nearest_from back (suc n) ≡ or_else (at_distance back) (nearest_from (back + 2) n)
  unfolding nearest_from evens at_distance
  step back n = refl

  inside : (back : ℕ) → start + back ≤ j → at_distance back ≡ at (j - back)
  unfolding at_distance
  inside back h = let e : nat_le (start + back) j ≡ true = grind (arith, nat_tests) in ap (λ b. cond b (at (j - back)) None) e

  outside : (back : ℕ) → j < start + back → at_distance back ≡ None
  unfolding at_distance
  outside back h = let e : nat_le (start + back) j ≡ false = grind (arith, nat_tests) in ap (λ b. cond b (at (j - back)) None) e

  pub nearest-here : (m n back : ℕ) (answer : A) → m ≡ suc n → start + back ≤ j → at (j - back) ≡ Some answer → nearest_from back m ≡ Some answer
  nearest-here m n back answer is within found =
      ap (λ k. nearest_from back k) is ∙ step back n ∙ ap (λ o. or_else o (nearest_from (back + 2) n)) (inside back within ∙ found)

  pub nearest-further : (m n back next : ℕ) → m ≡ suc n → next ≡ back + 2 → start + back ≤ j → at (j - back) ≡ None → nearest_from back m ≡ nearest_from next n
  nearest-further m n back next is then within none =
      ap (λ k. nearest_from back k) is ∙ step back n ∙ ap (λ o. or_else o (nearest_from (back + 2) n)) (inside back within ∙ none)
      ∙ ap (λ k. nearest_from k n) (sym then)

  pub nearest-past : (n back : ℕ) → j < start + back → nearest_from back n ≡ None
  nearest-past zero back past = no_distance back
  nearest-past (suc n) back past =
      step back n ∙ ap (λ o. or_else o (nearest_from (back + 2) n)) (outside back past) ∙ nearest-past n (back + 2) (omega arith)

  pub nearest-end : (n back : ℕ) → n ≡ 0 → nearest_from back n ≡ None
  nearest-end n back is = ap (λ k. nearest_from back k) is ∙ no_distance back

  -- an answer that is there, whatever it is
  pub nearest-same : (m n back : ℕ) (o : Option A) → m ≡ suc n → start + back ≤ j → at (j - back) ≡ o → is_some o ≡ true → nearest_from back m ≡ o
  nearest-same m n back None is within found some = absurd (cc)
  nearest-same m n back (Some answer) is within found some = nearest-here m n back answer is within found
