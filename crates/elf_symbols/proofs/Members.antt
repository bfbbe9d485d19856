-- The elements of a list.
use Rattle.std.proofs.Common.{◌≡◌, ℕ, zero, suc, ◌<◌, List, [], ◌∷◌, map, length, get_or, refl, ap, arith, inl, inr}
use Rattle.std.specs.Prelude.{◌⊎◌}
use Rattle.std.specs.List.{Contains}

pub no-member : {X : Type 0} (x : X) → Contains [] x → ⊥
no-member x there = omega (arith, there.1)

pub Contains-here : {X : Type 0} (x : X) (xs : List X) → Contains (x ∷ xs) x
Contains-here x xs = (0, omega arith, refl)

pub Contains-later : {X : Type 0} (x : X) (xs : List X) (y : X) → Contains xs y → Contains (x ∷ xs) y
Contains-later x xs y there = (suc there.0, omega (arith, there.1), there.2)

at_place : {X : Type 0} (x : X) (xs : List X) (y : X) (k : ℕ) → k < length (x ∷ xs) → get_or (x ∷ xs) k y ≡ y → (x ≡ y) ⊎ Contains xs y
at_place x xs y zero within is = inl is
at_place x xs y (suc k) within is = inr (k, omega arith, is)

pub Contains-cons_cases : {X : Type 0} (x : X) (xs : List X) (y : X) → Contains (x ∷ xs) y → (x ≡ y) ⊎ Contains xs y
Contains-cons_cases x xs y there = at_place x xs y there.0 there.1 there.2

-- the elements of a list, mapped
pub Contains-map : {X Y : Type 0} (f : X → Y) (xs : List X) (x : X) → Contains xs x → Contains (map f xs) (f x)
Contains-map f [] x there = absurd (no-member x there)
Contains-map f (y ∷ ys) x there = elim (Contains-cons_cases y ys x there) [
  | inl same ↦ (0, omega arith, ap f same)
  | inr later ↦ Contains-later (f y) (map f ys) (f x) (Contains-map f ys x later)
]

pub Contains-from_map : {X Y : Type 0} (f : X → Y) (xs : List X) (y : Y) → Contains (map f xs) y → (x : X) × Contains xs x × (f x ≡ y)
Contains-from_map f [] y there = absurd (no-member y there)
Contains-from_map f (x ∷ xs) y there = elim (Contains-cons_cases (f x) (map f xs) y there) [
  | inl same ↦ (x, Contains-here x xs, same)
  | inr later ↦ let it = Contains-from_map f xs y later in (it.0, Contains-later x xs it.0 it.1, it.2)
]
