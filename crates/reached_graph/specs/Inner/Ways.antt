-- Who tells which reached addresses return.
use Rattle.std.specs.Prelude.{◌↔◌, ℕ, Bool, List, IsTrue}
use Rattle.cfg_model.specs.declared.flow.Flow.{Flow}
use Rattle.cfg_model.specs.declared.flow.Flow.TheVariants.{Call}
use Rattle.cfg_model.specs.Program.Instructions.{InstructionMap}
use Rattle.cfg_model.specs.Program.Reach.{Reached}
use Rattle.cfg_model.specs.Program.Status.{Returns}

-- Whoever answers so may be asked of each reached address, and says whether it returns: by what is
-- asked before a question, and by the answers that may come.
pub record TellsReached (map : InstructionMap) (seeds : List ℕ) (Asks : ℕ → Type 0)
    (Answers : ℕ → Bool → Type 0) : Type 0 where
  pub asks : (a : ℕ) → Reached map seeds a → Asks a
  pub tells : (a : ℕ) (answer : Bool) → Reached map seeds a → Answers a answer
      → IsTrue answer ↔ Returns map a

-- If it is the flow of a call of a known address, this holds of that.
abbrev pub IfCalls : Flow → (ℕ → Type 0) → Type 0
IfCalls (Call target fall) P = P target
IfCalls _ P = Unit {0}
