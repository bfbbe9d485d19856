-- Lists: those that have exactly the things of one sort, and those that grow.
use Rattle.std.specs.Prelude.{◌≡◌, ◌⊎◌, List, ◌++◌, AllPairs, Contains}

-- xs has exactly what holds, and each item comes before those after it.
pub record Lists {X : Type 0} (Before : X → X → Type 0) (Holds : X → Type 0)
    (xs : List X) : Type 0 where
  pub in_order : AllPairs Before xs
  pub sound : (x : X) → Contains xs x → Holds x
  pub complete : (x : X) → Holds x → Contains xs x

-- new has what old has, all that holds besides, and nothing else.
pub record Gains {X : Type 0} (old new : List X) (Holds : X → Type 0) : Type 0 where
  pub kept : (x : X) → Contains old x → Contains new x
  pub added : (x : X) → Holds x → Contains new x
  pub nothing_else : (x : X) → Contains new x → Contains old x ⊎ Holds x

-- The same if new goes on where old ends.
pub record Extends {X : Type 0} (old new : List X) (Holds : X → Type 0) : Type 0 where
  pub rest : List X
  pub goes_on : new ≡ old ++ rest
  pub has : (x : X) → Holds x → Contains new x
  pub only : (x : X) → Contains new x → Contains old x ⊎ Holds x
