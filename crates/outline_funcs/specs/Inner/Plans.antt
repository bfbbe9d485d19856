-- What is made of blocks and edges for all functions together.
use Rattle.std.specs.Prelude.{ℕ, List, All}
use Rattle.std.specs.List.{AllZip}
use Rattle.cfg_model.specs.declared.graph.Function.{Function}
use Rattle.cfg_model.specs.Program.Instructions.{InstructionMap}
use Rattle.cfg_model.specs.Graph.Function.{IsFunction}
use Rattle.cfg_model.specs.Graph.Graph.{FunctionBefore}
use Rattle.cfg_model.specs.Graph.Listing.{Lists}
use Rattle.outline_funcs.specs.declared.exits.Exits.{Exits}
use Rattle.outline_funcs.specs.Listed.{AreOrdered, HaveEachEntry, TellsReturn}
use Rattle.outline_funcs.specs.Inner.Blocks.{HasBlockAt}
use Rattle.outline_funcs.specs.Inner.Bodies.{IsFunctionBy}
use Rattle.outline_funcs.specs.Inner.Exits.{AreExits}

-- Functions of these entries can be made from the edges from each block, and each entry is such.
pub record Serves (Holds : ℕ → Type 0) (exits : Exits) (entries : List ℕ) : Type 0 where
  pub holds : All Holds entries
  pub edges : AreExits exits
  pub listed : All (HasBlockAt exits.blocks.now) entries

-- These are all functions of the program.
pub record AreAll (map : InstructionMap) (seeds : List ℕ) (functions : List Function) : Type 0 where
  pub exact : Lists FunctionBefore (IsFunction map seeds) functions
  pub complete : HaveEachEntry map seeds functions
  pub ordered : AreOrdered functions

-- Who makes the function of each entry has all functions of the program.
abbrev pub MakesAll : InstructionMap → List ℕ → Exits → List ℕ → Type 0
MakesAll map seeds exits entries = (functions : List Function)
    → AllZip (IsFunctionBy (TellsReturn map) exits) entries functions → AreAll map seeds functions
