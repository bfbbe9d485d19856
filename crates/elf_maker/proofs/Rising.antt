-- The numbers of a list, rising, are its elements.
use Rattle.std.proofs.Common.{◌≡◌, ℕ, zero, suc, ◌<◌, List, [], ◌∷◌, length, get_or, refl, sym, subst, arith, inl, inr}
use Rattle.std.specs.Prelude.{◌⊎◌}
use Rattle.std.specs.List.{Contains}
use Rattle.std.proofs.lemmas.Bool.{cases_order, lt-ltb, le-ltb, eq-eqb, ne_eqb}
use Rattle.elf_image.specs.Seeds.{with_number, rising}

-- the elements of a list
pub no-member : {X : Type 0} (x : X) → Contains [] x → ⊥
no-member x there = omega (arith, there.1)

pub Contains-here : {X : Type 0} (x : X) (xs : List X) → Contains (x ∷ xs) x
Contains-here x xs = (0, omega arith, refl)

pub Contains-later : {X : Type 0} (x : X) (xs : List X) (y : X) → Contains xs y → Contains (x ∷ xs) y
Contains-later x xs y there = (suc there.0, omega (arith, there.1), there.2)

at_place : {X : Type 0} (x : X) (xs : List X) (y : X) (k : ℕ) → k < length (x ∷ xs) → get_or (x ∷ xs) k y ≡ y → (x ≡ y) ⊎ Contains xs y
at_place x xs y zero within is = inl is
at_place x xs y (suc k) within is = inr (k, omega arith, is)

pub Contains-cons_cases : {X : Type 0} (x : X) (xs : List X) (y : X) → Contains (x ∷ xs) y → (x ≡ y) ⊎ Contains xs y
Contains-cons_cases x xs y there = at_place x xs y there.0 there.1 there.2

-- one more number in its place
with_less : (a x : ℕ) (xs : List ℕ) → a < x → with_number a (x ∷ xs) ≡ a ∷ x ∷ xs
with_less a x xs less = rw (lt-ltb a x less) refl

with_same : (a x : ℕ) (xs : List ℕ) → a ≡ x → with_number a (x ∷ xs) ≡ x ∷ xs
with_same a x xs same = rw (le-ltb a x (omega arith), eq-eqb a x same) refl

with_more : (a x : ℕ) (xs : List ℕ) → x < a → with_number a (x ∷ xs) ≡ x ∷ with_number a xs
with_more a x xs more = rw (le-ltb a x (omega arith), ne_eqb a x (λ e. omega arith)) refl

with_here : (a : ℕ) (xs : List ℕ) → Contains (with_number a xs) a
with_here a [] = Contains-here a []
with_here a (x ∷ xs) = elim (cases_order a x) [
  | inl same ↦ rw (with_same a x xs same) (0, omega arith, sym same)
  | inr other ↦ elim other [
    | inl less ↦ rw (with_less a x xs less) (Contains-here a (x ∷ xs))
    | inr more ↦ rw (with_more a x xs more) (Contains-later x (with_number a xs) a (with_here a xs))
  ]
]

with_later : (a : ℕ) (xs : List ℕ) (z : ℕ) → Contains xs z → Contains (with_number a xs) z
with_later a [] z there = absurd (no-member z there)
with_later a (x ∷ xs) z there = elim (cases_order a x) [
  | inl same ↦ rw (with_same a x xs same) there
  | inr other ↦ elim other [
    | inl less ↦ rw (with_less a x xs less) (Contains-later a (x ∷ xs) z there)
    | inr more ↦ rw (with_more a x xs more) (elim (Contains-cons_cases x xs z there) [
      | inl is ↦ (0, omega arith, is)
      | inr later ↦ Contains-later x (with_number a xs) z (with_later a xs z later)
    ])
  ]
]

with_cases : (a : ℕ) (xs : List ℕ) (z : ℕ) → Contains (with_number a xs) z → (a ≡ z) ⊎ Contains xs z
with_cases a [] z there = Contains-cons_cases a [] z there
with_cases a (x ∷ xs) z there = elim (cases_order a x) [
  | inl same ↦ inr (rw (with_same a x xs same) at there)
  | inr other ↦ elim other [
    | inl less ↦ Contains-cons_cases a (x ∷ xs) z (rw (with_less a x xs less) at there)
    | inr more ↦ elim (Contains-cons_cases x (with_number a xs) z (rw (with_more a x xs more) at there)) [
      | inl is ↦ inr (0, omega arith, is)
      | inr later ↦ elim (with_cases a xs z later) [
        | inl is ↦ inl is
        | inr old ↦ inr (Contains-later x xs z old)
      ]
    ]
  ]
]

pub rising-keeps : (xs : List ℕ) (z : ℕ) → Contains xs z → Contains (rising xs) z
rising-keeps [] z there = there
rising-keeps (x ∷ xs) z there = elim (Contains-cons_cases x xs z there) [
  | inl is ↦ subst (Contains (with_number x (rising xs))) is (with_here x (rising xs))
  | inr later ↦ with_later x (rising xs) z (rising-keeps xs z later)
]

pub rising-adds_none : (xs : List ℕ) (z : ℕ) → Contains (rising xs) z → Contains xs z
rising-adds_none [] z there = there
rising-adds_none (x ∷ xs) z there = elim (with_cases x (rising xs) z there) [
  | inl is ↦ (0, omega arith, is)
  | inr later ↦ Contains-later x xs z (rising-adds_none xs z later)
]
