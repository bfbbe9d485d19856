-- Instructions in the order of their addresses: there are no more of them than there are numbers.
use Rattle.std.proofs.Common.{ℕ, zero, suc, ◌<◌, ◌≤◌, List, [], ◌∷◌, length, get_or, arith}
use Rattle.std.specs.Prelude.{All, AllPairs, IsSome}
use Rattle.cfg_model.specs.Program.Instructions.{InstructionMap}
use Rattle.numbered.specs.Numbering.{IsNumbering, NumbersRise}

module _ {X : Type 0} (map : InstructionMap) (number : ℕ → ℕ) (count : ℕ) (key : X → ℕ) (numbering : IsNumbering map number count) (up : NumbersRise map number) where
  number_at : (xs : List X) → AllPairs (λ x y. key x < key y) xs → All (λ x. IsSome (map (key x))) xs → (i : ℕ) (d : X) → i < length xs → i ≤ number (key (get_or xs i d))
  number_at xs rise stand zero d lt = omega arith
  number_at xs rise stand (suc i) d lt =
      let before : i < length xs = omega (arith, lt) in
      let low : i ≤ number (key (get_or xs i d)) = number_at xs rise stand i d before in
      let higher : number (key (get_or xs i d)) < number (key (get_or xs (suc i) d)) =
      up.rise (key (get_or xs i d)) (key (get_or xs (suc i) d)) (stand i d before) (stand (suc i) d lt) (rise i (suc i) d (omega arith) lt) in
      omega (arith, low, higher)

  pub no_more : (xs : List X) → AllPairs (λ x y. key x < key y) xs → All (λ x. IsSome (map (key x))) xs → length xs ≤ count
  no_more [] rise stand = omega arith
  no_more (x ∷ xs) rise stand =
      let last : length xs < length (x ∷ xs) = omega arith in
      let below : number (key (get_or (x ∷ xs) (length xs) x)) < count = numbering.below (key (get_or (x ∷ xs) (length xs) x)) (stand (length xs) x last) in
      omega (arith, below, number_at (x ∷ xs) rise stand (length xs) x last)
