-- Where an item stands in a list, by cases on the list.
use Rattle.std.proofs.Common.{◌≡◌, zero, suc, List, [], ◌∷◌, refl, arith}
use Rattle.std.specs.Prelude.{Contains, ◌⊎◌}
use mathlib.Core.Logic.{inl, inr}

pub none_in : {X : Type 0} (x : X) → Contains [] x → ⊥
none_in x c = omega (arith, c.1)

pub head_in : {X : Type 0} (x : X) (xs : List X) → Contains (x ∷ xs) x
head_in x xs = (0, omega arith, refl)

pub tail_in : {X : Type 0} (y x : X) (xs : List X) → Contains xs x → Contains (y ∷ xs) x
tail_in y x xs c = (suc c.0, omega (arith, c.1), c.2)

pub in_cases : {X : Type 0} (y : X) (ys : List X) (x : X) → Contains (y ∷ ys) x → (y ≡ x) ⊎ Contains ys x
in_cases y ys x (zero, l, e) = inl e
in_cases y ys x (suc k, l, e) = inr (k, omega (arith, l), e)
