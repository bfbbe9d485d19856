-- Functions that are made part by part are those of all parts.
use Rattle.std.proofs.Common.{◌≡◌, ℕ, ◌+◌, ◌<◌, suc, List, [], ◌∷◌, ◌++◌, length, get_or, take, Bor, Ok, Err, sym, subst, arith}
use Rattle.std.specs.Prelude.{IfOk}
use Rattle.std.specs.List.{All, AllZip, flat_map}
use Rattle.std.proofs.lemmas.List.Concat.{get_or-flat_map}
use Rattle.std.proofs.lemmas.List.Folds.{length-flat_map-take}
use Rattle.cfg_model.specs.declared.graph.Function.{Function}
use Rattle.outline_funcs.specs.declared.exits.Exits.{Exits}
use Rattle.outline_funcs.specs.Inner.Blocks.{HasBlockAt}
use Rattle.outline_funcs.specs.Inner.Plans.{Serves}
use Rattle.parallel.specs.Lists.{Answered, AreMade, made_in}

-- What a part is.
abbrev pub Part : Type 0
Part = Bor (List ℕ)

abbrev pub entries_of : Part → List ℕ
entries_of part = part.now

-- what holds of all entries holds of those of a part
all_part : (P : ℕ → Type 0) (parts : List Part) (i : ℕ) (e : Part) → i < length parts → All P (flat_map entries_of parts) → All P (get_or parts i e).now
all_part P parts i e lt all = λ j d below.
    let fits = length-flat_map-take entries_of parts i e lt in
    subst P (get_or-flat_map entries_of parts i j e d lt below) (all (length (flat_map entries_of (take i parts)) + j) d (omega (arith, fits)))

pub serves_part : (Holds : ℕ → Type 0) (exits : Exits) (entries : List ℕ) (parts : List Part)
    → flat_map entries_of parts ≡ entries → Serves Holds exits entries → All (λ part. Serves Holds exits part.now) parts
serves_part Holds exits entries parts whole serves = λ i d lt.
    let serves_all : Serves Holds exits (flat_map entries_of parts) = rw whole serves in
    record {
      holds = all_part Holds parts i d lt serves_all.holds;
      edges = serves.edges;
      listed = all_part (HasBlockAt exits.blocks.now) parts i d lt serves_all.listed;
    }

zip_append : {A B : Type 0} (R : A → B → Type 0) (xs zs : List A) (ys ws : List B) → AllZip R xs ys → AllZip R zs ws → AllZip R (xs ++ zs) (ys ++ ws)
zip_append R [] zs [] ws h k = k
zip_append R [] zs (y ∷ ys) ws h k = absurd h
zip_append R (x ∷ xs) zs [] ws h k = absurd h
zip_append R (x ∷ xs) zs (y ∷ ys) ws (r, h) k = (r, zip_append R xs zs ys ws h k)

module _ (R : ℕ → Function → Type 0) where
  made_part : (part : Part) (answer : Answered Function) → IfOk answer (λ v. AllZip R part.now v.items) → AreMade answer → AllZip R part.now (made_in answer)
  made_part part (Ok functions) each made = each
  made_part part (Err e) each made = absurd (cc)

  -- each part has its functions, so all have theirs
  pub joined_parts : (parts : List Part) (answers : List (Answered Function)) → length answers ≡ length parts
      → ((i : ℕ) (d : Part) (e : Answered Function) → i < length parts → IfOk (get_or answers i e) (λ v. AllZip R (get_or parts i d).now v.items))
      → All AreMade answers → AllZip R (flat_map entries_of parts) (flat_map made_in answers)
  joined_parts [] [] long each made = tt
  joined_parts [] (answer ∷ answers) long each made = absurd (omega (arith, long))
  joined_parts (part ∷ parts) [] long each made = absurd (omega (arith, long))
  joined_parts (part ∷ parts) (answer ∷ answers) long each made =
      zip_append R part.now (flat_map entries_of parts) (made_in answer) (flat_map made_in answers)
      (made_part part answer (each 0 part answer (omega arith)) (made 0 answer (omega arith)))
      (joined_parts parts answers (omega (arith, long))
      (λ i d e lt. each (suc i) d e (omega (arith, lt)))
      (λ k d lt. made (suc k) d (omega (arith, lt))))

-- and the list of all of them is that of all entries
pub made_of_parts : (R : ℕ → Function → Type 0) (entries : List ℕ) (parts : List Part) (answers : List (Answered Function)) (functions : List Function)
    → flat_map entries_of parts ≡ entries → length answers ≡ length parts
    → ((i : ℕ) (d : Part) (e : Answered Function) → i < length parts → IfOk (get_or answers i e) (λ v. AllZip R (get_or parts i d).now v.items))
    → All AreMade answers → functions ≡ flat_map made_in answers → AllZip R entries functions
made_of_parts R entries parts answers functions whole long each made joined =
    let all = joined_parts R parts answers long each made in
    let all_entries : AllZip R entries (flat_map made_in answers) = subst (λ (xs : List ℕ). AllZip R xs (flat_map made_in answers)) whole all in
    subst (AllZip R entries) (sym joined) all_entries
