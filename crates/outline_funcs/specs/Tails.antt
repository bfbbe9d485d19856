-- Tail calls among the edges of a program, read off a list of its functions.
use Rattle.std.specs.Prelude.{◌≡◌, ℕ, ◌<◌, List, length, slice_index_or, Contains}
use Rattle.cfg_model.specs.declared.graph.Block.{Block}
use Rattle.cfg_model.specs.declared.graph.Edge.{Edge}
use Rattle.cfg_model.specs.declared.graph.EdgeKind.TheVariants as kinds
use Rattle.cfg_model.specs.declared.graph.Function.{Function}
use Rattle.cfg_model.specs.Program.Instructions.{InstructionMap}
use Rattle.cfg_model.specs.Graph.Function.{IsFunction}
use Rattle.cfg_model.specs.Graph.Graph.{FunctionBefore, IsGraph, IsOutline}
use Rattle.cfg_model.specs.Graph.Listing.{Lists}
use Rattle.outline_funcs.specs.Listed.{HaveEachEntry}

-- The edge is a tail call: a jump to the entry of one of these functions, from outside of its body.
pub record IsTailAmong (functions : List Function) (edge : Edge) : Type 0 where
  pub jump : edge.kind ≡ kinds.Jump
  pub function : Function
  pub listed : Contains functions function
  pub entered : function.entry ≡ edge.to
  pub outside : ¬ Contains function.body edge.from

-- The same edge: its kind is set to tail exactly if it is a tail call.
pub data IsMarkOf (functions : List Function) (edge : Edge) : Edge → Type 0 where
  tail : IsTailAmong functions edge → IsMarkOf functions edge (record edge { kind = kinds.Tail })
  same : ¬ IsTailAmong functions edge → IsMarkOf functions edge edge

-- The same edges in the same order, each marked so.
pub record AreMarksOf (functions : List Function) (old new : List Edge) : Type 0 where
  pub same_length : length new ≡ length old
  pub marked : (k : ℕ) (d : Edge) → k < length old
      → IsMarkOf functions (slice_index_or old k d) (slice_index_or new k d)

-- If these are all functions of a program, and the old edges all its edges, the new ones complete
-- its graph.
abbrev pub CompleteGraphs : List Function → List Edge → List Edge → Type 0
CompleteGraphs functions old new =
    (map : InstructionMap) (seeds : List ℕ) (entry : ℕ) (blocks : List Block)
    → IsOutline map seeds blocks old
    → Lists FunctionBefore (IsFunction map seeds) functions → HaveEachEntry map seeds functions
    → IsGraph map seeds entry
    (record { entry = entry; functions = functions; blocks = blocks; edges = new })
