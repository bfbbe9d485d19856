-- What holds of each item of a list, as far as a loop has come.
use Rattle.std.proofs.Common.{◌≡◌, ℕ, ◌+◌, ◌<◌, ◌≤◌, Bool, true, false, List, length, get_or, refl, sym, ◌∙◌, subst, below_more, arith}
use Rattle.std.specs.Prelude.{◌↔◌, IsTrue, All}
use Rattle.std.proofs.lemmas.List.{get_or_default}

pub false_true : {P : Type 0} → ◌≡◌ {A = Bool} false true → P
false_true e = cc

module _ {X : Type 0} (P : X → Type 0) (xs : List X) where
  abbrev pub AllBelow : ℕ → Type 0
  AllBelow i = (k : ℕ) (d : X) → k < i → P (get_or xs k d)

  pub all_more : (i : ℕ) (d : X) → i < length xs → AllBelow i → P (get_or xs i d) → AllBelow (i + 1)
  all_more i d within old here k e lt =
      below_more (λ (n : ℕ). P (get_or xs n e)) i (λ n below. old n e below)
      (subst P (get_or_default xs i d e within) here) k lt

  -- all hold
  pub all_hold : (i : ℕ) → length xs ≤ i → AllBelow i → IsTrue true ↔ All P xs
  all_hold i le old = (λ _. λ k d within. old k d (omega arith), λ _. refl)

  -- one does not
  pub one_fails : (i : ℕ) (d : X) (b : Bool) → i < length xs → IsTrue b ↔ P (get_or xs i d) → b ≡ false → IsTrue false ↔ All P xs
  one_fails i d b within exact fails = (λ e. false_true e, λ all. false_true (sym fails ∙ exact.1 (all i d within)))
