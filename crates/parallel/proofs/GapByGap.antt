-- What was found gap by gap, one list after another.
use Rattle.std.proofs.Common.{◌≡◌, ℕ, zero, suc, ◌+◌, ◌<◌, ◌≤◌, ◌⊎◌, List, [], ◌∷◌, ◌++◌, length, get_or, below_more, inl, inr, ⊎_elim, arith}
use Rattle.std.specs.Prelude.{◌↔◌}
use Rattle.std.specs.List.{All, AllPairs, Contains, flat_map}
use Rattle.std.proofs.lemmas.List.Elements.{All-append, Contains-append_left, Contains-append_right, Contains-append_cases, Contains-get_or}
use Rattle.std.proofs.lemmas.List.Kept.{AllPairs-cons}
use Rattle.parallel.specs.Ranges.{IsIn}
use Rattle.parallel.specs.Gaps.{gap}
use Rattle.parallel.proofs.Covered.{in_some_gap}

-- a list that has a place has an item
pub item_of : {A : Type 0} (xs : List A) (k : ℕ) → k < length xs → A
item_of [] k within = absurd (omega arith)
item_of (x ∷ xs) k within = x

module _ {X A : Type 0} (items : A → List X) where
  -- an item of the whole is one of some part, and the other way round
  pub from_part : (parts : List A) (i : ℕ) (d : A) (x : X) → i < length parts → Contains (items (get_or parts i d)) x → Contains (flat_map items parts) x
  from_part [] i d x within there = absurd (omega arith)
  from_part (p ∷ parts) zero d x within there = Contains-append_left (items p) (flat_map items parts) x there
  from_part (p ∷ parts) (suc i) d x within there = Contains-append_right (items p) (flat_map items parts) x (from_part parts i d x (omega arith) there)

  pub of_part : (parts : List A) (x : X) → Contains (flat_map items parts) x → (i : ℕ) × (i < length parts) × ((d : A) → Contains (items (get_or parts i d)) x)
  of_part [] x there = absurd (omega (arith, there.1))
  of_part (p ∷ parts) x there =
      ⊎_elim
      (λ here. (0, omega arith, λ d. here))
      (λ later. let rest = of_part parts x later in (suc rest.0, omega (arith, rest.1), λ d. rest.2 d))
      (Contains-append_cases (items p) (flat_map items parts) x there)

  -- what holds of all items of each part holds of all
  pub all_joined : (P : X → Type 0) (parts : List A) → ((i : ℕ) (d : A) → i < length parts → All P (items (get_or parts i d))) → All P (flat_map items parts)
  all_joined P [] each = λ k d within. absurd (omega arith)
  all_joined P (p ∷ parts) each =
      All-append P (items p) (flat_map items parts) (each 0 p (omega arith))
      (all_joined P parts (λ i d within. each (suc i) d (omega arith)))

module _ {X : Type 0} (R : X → X → Type 0) where
  pairs_append : (xs ys : List X) → AllPairs R xs → AllPairs R ys → ((x y : X) → Contains xs x → Contains ys y → R x y) → AllPairs R (xs ++ ys)
  pairs_append [] ys one other across = other
  pairs_append (x ∷ xs) ys one other across =
      AllPairs-cons R x (xs ++ ys)
      (All-append (R x) xs ys
      (λ k d within. one 0 (suc k) d (omega arith) (omega arith))
      (λ k d within. across x (get_or ys k d) (Contains-get_or (x ∷ xs) 0 d (omega arith)) (Contains-get_or ys k d within)))
      (pairs_append xs ys (λ i j d less within. one (suc i) (suc j) d (omega arith) (omega arith)) other
      (λ a b at there. across a b (Contains-append_right (x ∷ []) xs a at) there))

  -- what holds between the items of each part, and between those of a part and of a later one, holds between all
  pub pairs_joined : {A : Type 0} (items : A → List X) (parts : List A)
      → ((i : ℕ) (d : A) → i < length parts → AllPairs R (items (get_or parts i d)))
      → ((i j : ℕ) (d : A) (x y : X) → i < j → j < length parts → Contains (items (get_or parts i d)) x → Contains (items (get_or parts j d)) y → R x y)
      → AllPairs R (flat_map items parts)
  pairs_joined items [] each across = λ i j d less within. absurd (omega arith)
  pairs_joined items (p ∷ parts) each across =
      pairs_append (items p) (flat_map items parts) (each 0 p (omega arith))
      (pairs_joined items parts
      (λ i d within. each (suc i) d (omega arith))
      (λ i j d x y less within at there. across (suc i) (suc j) d x y (omega arith) (omega arith) at there))
      (λ x y at there.
      let later = of_part items parts y there in
      across 0 (suc later.0) p x y (omega arith) (omega (arith, later.1)) at (later.2 p))

-- where the part of each gap has the items of the addresses that lie in it, the whole has those of all
module _ {X A : Type 0} (items : A → List X) (P : ℕ → X → Type 0) (bounds : List ℕ) (parts : List A) (long : length parts ≡ length bounds + 1)
    (each : (i : ℕ) (d : A) → i < length parts → (x : X) → Contains (items (get_or parts i d)) x ↔ ((a : ℕ) × IsIn (gap bounds i) a × P a x)) where
  pub joined_has : (x : X) → Contains (flat_map items parts) x ↔ ((a : ℕ) × P a x)
  joined_has x = (
    λ there. let part = of_part items parts x there in
        let d : A = item_of parts part.0 part.1 in
        let at = (each part.0 d part.1 x).0 (part.2 d) in (at.0, at.2),
    λ at. let i = in_some_gap bounds at.0 in
        let within : i.0 < length parts = omega (arith, long, i.1) in
        let d : A = item_of parts i.0 within in
        from_part items parts i.0 d x within ((each i.0 d within x).1 (at.0, i.2, at.1)),
  )

-- what is known where there is something in a gap is known where there is something at all

either_all : {P : Type 0} (Q : ℕ → Type 0) (n : ℕ) → ((i : ℕ) → i < n → P ⊎ Q i) → P ⊎ ((i : ℕ) → i < n → Q i)
either_all Q zero each = inr (λ i less. absurd (omega arith))
either_all Q (suc n) each =
    ⊎_elim
    (λ p. inl p)
    (λ all. ⊎_elim (λ p. inl p) (λ q. inr (λ i less. below_more Q n all q i (omega (arith, less)))) (each n (omega arith)))
    (either_all Q n (λ i less. each i (omega (arith, less))))

pub known_joined : {P : Type 0} (E : ℕ → Type 0) (bounds : List ℕ) → ((i : ℕ) → i ≤ length bounds → P ⊎ ((a : ℕ) → E a → ¬ IsIn (gap bounds i) a)) → P ⊎ ((a : ℕ) → ¬ E a)
known_joined {P} E bounds each =
    ⊎_elim
    (λ p. inl p)
    (λ none. inr (λ a there. let at = in_some_gap bounds a in none at.0 (omega (arith, at.1)) a there at.2))
    (either_all {P = P} (λ i. (a : ℕ) → E a → ¬ IsIn (gap bounds i) a) (length bounds + 1) (λ i less. each i (omega (arith, less))))
