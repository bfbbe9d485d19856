-- What holds of each item of a list, found item by item.
use Rattle.std.proofs.Common.{◌≡◌, ℕ, ◌≤◌, ◌↔◌, List, length, take, Bool, true, false, IsTrue, refl, sym, subst, ◌∙◌}
use Rattle.std.specs.Prelude.{All}
use Rattle.std.proofs.lemmas.Bool.{false≢true}
use Rattle.std.proofs.lemmas.List.{take_all}

-- an answer that is no
pub denied : (P : Type 0) → (P → ⊥) → IsTrue false ↔ P
denied P none = (λ t. absurd (false≢true t), λ p. absurd (none p))

-- what does not hold where the answer is no
pub refuted : (P : Type 0) (r : Bool) → r ≡ false → IsTrue r ↔ P → P → ⊥
refuted P r e says p = false≢true (sym e ∙ says.1 p)

-- the list is at its end
pub all_found : {X : Type 0} (P : X → Type 0) (xs : List X) (n : ℕ) → length xs ≤ n → All P (take n xs) → All P xs
all_found P xs n long so_far = subst (All P) (take_all n xs long) so_far

pub all_hold : {X : Type 0} (P : X → Type 0) (xs : List X) (n : ℕ) → length xs ≤ n → All P (take n xs) → IsTrue true ↔ All P xs
all_hold P xs n long so_far = (λ t. all_found P xs n long so_far, λ all. refl)
