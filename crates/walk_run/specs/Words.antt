-- What a list of words asks for.
use Rattle.std.specs.Prelude.{ℕ, List, [], ◌∷◌, Option, Some, None, String, map, string_bytes}
use Rattle.std.specs.Option.{option_map}
use Rattle.cfg_words.specs.Value.{number_within}

-- What is asked for: a walk of at most so many steps, in the file at a path.
pub data Asked : Type 0 where
  of_walk : ℕ → List ℕ → Asked

-- The walk of three words: the program's name, STEPS and FILE. STEPS is one to nine decimal digits
-- of a number from 1 to 1,000,000. Other words ask for nothing.
abbrev pub walk_by : List (List ℕ) → Option Asked
walk_by [] = None
walk_by (program ∷ []) = None
walk_by (program ∷ steps ∷ []) = None
walk_by (program ∷ steps ∷ path ∷ []) = option_map (λ n. of_walk n path)
    (number_within 1 1000000 steps)
walk_by (program ∷ steps ∷ path ∷ word ∷ words) = None

-- What the words ask for; nothing if they are refused.
abbrev pub asked_by : {A : Type 0} → List (String A) → Option Asked
asked_by words = walk_by (map (λ w. string_bytes w) words)

-- The path of the file that is asked for.
abbrev pub path_of : Option Asked → Option (List ℕ)
path_of None = None
path_of (Some (of_walk steps path)) = Some path

-- A walk is asked for.
abbrev pub AsksWalk : Option Asked → Type 0
AsksWalk None = ⊥
AsksWalk (Some asked) = Unit {0}
