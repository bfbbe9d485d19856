-- What is known of a list of a program's functions beside that it has exactly these.
use Rattle.std.specs.Prelude.{◌≡◌, ◌↔◌, ℕ, Bool, List, All, AllPairs, Contains, IsTrue}
use Rattle.std.specs.List.Sorted.{IsStrictlyIncreasing}
use Rattle.cfg_model.specs.declared.graph.Function.{Function}
use Rattle.cfg_model.specs.Program.Instructions.{InstructionMap}
use Rattle.cfg_model.specs.Program.Status.{Returns}
use Rattle.cfg_model.specs.Graph.Function.{IsEntry}
use Rattle.cfg_model.specs.Graph.Graph.{FunctionBefore}

-- The functions are in the order of their entries, and each body rises.
pub record AreOrdered (functions : List Function) : Type 0 where
  pub entries : AllPairs FunctionBefore functions
  pub bodies : All (λ function. IsStrictlyIncreasing function.body) functions

-- A function of this entry is in the list.
abbrev pub HasEntry : List Function → ℕ → Type 0
HasEntry functions a =
    (function : Function) × Contains functions function × (function.entry ≡ a)

-- No entry of the program is left out.
abbrev pub HaveEachEntry : InstructionMap → List ℕ → List Function → Type 0
HaveEachEntry map seeds functions = (a : ℕ) → IsEntry map seeds a → HasEntry functions a

-- The answer says of the address a whether it returns.
abbrev pub TellsReturn : InstructionMap → ℕ → Bool → Type 0
TellsReturn map a answer = IsTrue answer ↔ Returns map a

-- Whoever answers so may be asked of each entry of the program, and says whether it returns: by
-- what is asked before a question, and by the answers that may come.
pub record TellsReturns (map : InstructionMap) (seeds : List ℕ) (Asks : ℕ → Type 0)
    (Answers : ℕ → Bool → Type 0) : Type 0 where
  pub asks : (a : ℕ) → IsEntry map seeds a → Asks a
  pub tells : (a : ℕ) (answer : Bool) → IsEntry map seeds a → Answers a answer
      → TellsReturn map a answer
