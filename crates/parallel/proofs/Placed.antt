-- Lists of results, from which one after another is taken, and places that are written.
use Rattle.std.proofs.Common.{◌≡◌, ℕ, List, ◌∷◌, ◌++◌, length, take, drop, Option, sym, ◌∙◌, subst, arith}
use Rattle.std.specs.List.{All}
use Rattle.std.proofs.lemmas.List.{take-append-le, take_all}
use Rattle.std.proofs.lemmas.List.Elements.{All-head, All-rest}
use denote.Param.Members.{Shared}
use Rattle.parallel.specs.Inner.Drawn.{IsResultBelow}

module _ {F X : Type 0} (g : Shared F (ℕ × Unit {0}) X) (f : F) where
  -- what is left behind the first result, for as many places
  pub rest_made : (places next : List (Option X)) (x : ℕ × X) (xs ys : List (ℕ × X)) → ys ≡ x ∷ xs → length next ≡ length places
      → All (IsResultBelow g f (length places)) ys → All (IsResultBelow g f (length next)) xs
  rest_made places next x xs ys is same made =
      subst (λ n. All (IsResultBelow g f n) xs) (sym same) (All-rest (IsResultBelow g f (length places)) x xs ys is made)

-- the first of a list
pub first_of : {X : Type 0} (P : X → Type 0) (x : X) (xs ys : List X) → ys ≡ x ∷ xs → All P ys → P x
first_of P x xs ys is all = All-head P x xs (subst (All P) is all)

-- all places are written
pub all_written : {X : Type 0} (n : ℕ) (new old : List X) → length new ≡ n → take n (new ++ drop (length new) old) ≡ new
all_written n new old long = take-append-le n new (drop (length new) old) (omega (arith, long)) ∙ take_all n new (omega (arith, long))
