-- What is made of each piece of a list is, put together, made of the whole.
use Rattle.std.proofs.Common.{◌≡◌, ℕ, ◌+◌, ◌<◌, suc, List, [], ◌∷◌, ◌++◌, length, get_or, take, Bor, Ok, Err, sym, subst, arith}
use Rattle.std.specs.Prelude.{IfOk}
use Rattle.std.specs.List.{All, AllZip, flat_map}
use Rattle.std.proofs.lemmas.List.Concat.{get_or-flat_map}
use Rattle.std.proofs.lemmas.List.Folds.{length-flat_map-take}
use Rattle.parallel.specs.Lists.{Answered, AreMade, made_in}

module _ {X : Type 0} where
  abbrev pub items_of : Bor (List X) → List X
  items_of piece = piece.now

  -- what holds of each item holds of each item of a piece
  pub each_piece : (P : X → Type 0) (pieces : List (Bor (List X))) → All P (flat_map items_of pieces) → All (λ piece. All P piece.now) pieces
  each_piece P pieces all = λ i e lt. λ j d below.
      let fits = length-flat_map-take items_of pieces i e lt in
      subst P (get_or-flat_map items_of pieces i j e d lt below) (all (length (flat_map items_of (take i pieces)) + j) d (omega (arith, fits)))

zip_append : {A B : Type 0} (R : A → B → Type 0) (xs zs : List A) (ys ws : List B) → AllZip R xs ys → AllZip R zs ws → AllZip R (xs ++ zs) (ys ++ ws)
zip_append R [] zs [] ws h k = k
zip_append R [] zs (y ∷ ys) ws h k = absurd h
zip_append R (x ∷ xs) zs [] ws h k = absurd h
zip_append R (x ∷ xs) zs (y ∷ ys) ws (r, h) k = (r, zip_append R xs zs ys ws h k)

module _ {X Y : Type 0} (R : X → Y → Type 0) where
  made_piece : (piece : Bor (List X)) (answer : Answered Y) → IfOk answer (λ v. AllZip R piece.now v.items) → AreMade answer → AllZip R piece.now (made_in answer)
  made_piece piece (Ok made) each there = each
  made_piece piece (Err e) each there = absurd (cc)

  -- each piece has its answer, so the whole has
  joined_pieces : (pieces : List (Bor (List X))) (answers : List (Answered Y)) → length answers ≡ length pieces
      → ((i : ℕ) (d : Bor (List X)) (e : Answered Y) → i < length pieces → IfOk (get_or answers i e) (λ v. AllZip R (get_or pieces i d).now v.items))
      → All AreMade answers → AllZip R (flat_map items_of pieces) (flat_map made_in answers)
  joined_pieces [] [] long each made = tt
  joined_pieces [] (answer ∷ answers) long each made = absurd (omega (arith, long))
  joined_pieces (piece ∷ pieces) [] long each made = absurd (omega (arith, long))
  joined_pieces (piece ∷ pieces) (answer ∷ answers) long each made =
      zip_append R piece.now (flat_map items_of pieces) (made_in answer) (flat_map made_in answers)
      (made_piece piece answer (each 0 piece answer (omega arith)) (made 0 answer (omega arith)))
      (joined_pieces pieces answers (omega (arith, long))
      (λ i d e lt. each (suc i) d e (omega (arith, lt)))
      (λ k d lt. made (suc k) d (omega (arith, lt))))

  made_of_pieces : (items : List X) (pieces : List (Bor (List X))) (answers : List (Answered Y)) (all : List Y)
      → flat_map items_of pieces ≡ items → length answers ≡ length pieces
      → ((i : ℕ) (d : Bor (List X)) (e : Answered Y) → i < length pieces → IfOk (get_or answers i e) (λ v. AllZip R (get_or pieces i d).now v.items))
      → All AreMade answers → all ≡ flat_map made_in answers → AllZip R items all
  made_of_pieces items pieces answers all whole long each made joined =
      let zipped : AllZip R items (flat_map made_in answers) = subst (λ (xs : List X). AllZip R xs (flat_map made_in answers)) whole (joined_pieces pieces answers long each made) in
      subst (AllZip R items) (sym joined) zipped

  -- the same of a good answer
  pub answer_of_pieces : (items : List X) (pieces : List (Bor (List X))) (answers : List (Answered Y)) (answer : Answered Y)
      → flat_map items_of pieces ≡ items → length answers ≡ length pieces
      → ((i : ℕ) (d : Bor (List X)) (e : Answered Y) → i < length pieces → IfOk (get_or answers i e) (λ v. AllZip R (get_or pieces i d).now v.items))
      → IfOk answer (λ v. All AreMade answers) → IfOk answer (λ v. v.items ≡ flat_map made_in answers) → IfOk answer (λ v. AllZip R items v.items)
  answer_of_pieces items pieces answers (Ok all) whole long each made joined = made_of_pieces items pieces answers all.items whole long each made joined
  answer_of_pieces items pieces answers (Err e) whole long each made joined = tt
