-- Texts that were made part by part.
use Rattle.std.proofs.Common.{◌≡◌, ◌∙◌, ℕ, suc, ◌<◌, List, [], ◌∷◌, ◌++◌, length, Ok, Err, refl, ap₂, arith}
use Rattle.std.specs.Prelude.{Result, IfOk, All, slice_index_or}
use Rattle.std.specs.List.{flat_map}
use Rattle.parallel.specs.Lists.{Answered, AreMade, made_in}

made_text : (answer : Answered ℕ) (text : List ℕ) → IfOk answer (λ made. made.items ≡ text) → AreMade answer → made_in answer ≡ text
made_text (Ok made) text is there = is
made_text (Err e) text is there = absurd (cc)

-- if each is the text of its part, all are the text of all parts
pub texts_of_parts : (parts : List (List ℕ)) (texts : List (Answered ℕ)) → length texts ≡ length parts
    → ((i : ℕ) (d : List ℕ) (e : Answered ℕ) → i < length parts → IfOk (slice_index_or texts i e) (λ made. made.items ≡ slice_index_or parts i d))
    → All AreMade texts → flat_map made_in texts ≡ flat_map (λ part. part) parts
texts_of_parts [] [] long each made = refl
texts_of_parts [] (t ∷ texts) long each made = absurd (omega (arith, long))
texts_of_parts (part ∷ parts) [] long each made = absurd (omega (arith, long))
texts_of_parts (part ∷ parts) (t ∷ texts) long each made =
    ap₂ (λ (xs ys : List ℕ). xs ++ ys) (made_text t part (each 0 [] t (omega arith)) (made 0 t (omega arith)))
    (texts_of_parts parts texts (omega (arith, long)) (λ i d e within. each (suc i) d e (omega (arith, within))) (λ i d within. made (suc i) d (omega (arith, within))))

-- a list of texts that was made has the text of all parts
pub if_made_of : {T E : Type 0} {P : Type 0} (text : T → List ℕ) (made all : List ℕ) (r : Result T E)
    → IfOk r (λ v. P) → IfOk r (λ v. text v ≡ made) → (P → made ≡ all) → IfOk r (λ v. text v ≡ all)
if_made_of text made all (Ok v) p is same = is ∙ same p
if_made_of text made all (Err e) p is same = tt
