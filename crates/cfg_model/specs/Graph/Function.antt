-- Functions, their bodies and tail calls.
use Rattle.std.specs.Prelude.{◌≡◌, ◌≢◌, ◌↔◌, ℕ, ◌<◌, ◌⊎◌, List, Contains, Option, IsTrue}
use Rattle.cfg_model.specs.declared.graph.Edge.{Edge}
use Rattle.cfg_model.specs.declared.graph.EdgeKind.TheVariants as kinds
use Rattle.cfg_model.specs.declared.graph.Function.{Function}
use Rattle.cfg_model.specs.Program.Instructions.{InstructionMap}
use Rattle.cfg_model.specs.Program.Successors.{IsCall}
use Rattle.cfg_model.specs.Program.Status.{Returns}
use Rattle.cfg_model.specs.Program.Reach.{Reached}
use Rattle.cfg_model.specs.Graph.Edge.{IsEdge}
use Rattle.cfg_model.specs.Graph.Listing.{Lists}

-- A function's entry: a seed, or the target of a reached call.
pub data IsEntry (map : InstructionMap) (seeds : List ℕ) : ℕ → Type 0 where
  seed : {a : ℕ} → Contains seeds a → IsEntry map seeds a
  called : {k a : ℕ} {fall : Option ℕ} → Reached map seeds k → IsCall map k a fall
      → IsEntry map seeds a

-- An edge stays in the function of this entry, if these are the entries: it is no call, and it
-- leads to the entry itself or to where no function starts.
pub record StaysIn (AnEntry : ℕ → Type 0) (entry : ℕ) (edge : Edge) : Type 0 where
  pub no_call : edge.kind ≢ kinds.Call
  pub inside : (edge.to ≡ entry) ⊎ (¬ AnEntry edge.to)

-- The body of the function of this entry, by the starts of its blocks, for these edges and entries.
-- It is the least set that has the entry's block and is closed under the edges that stay in the
-- function.
pub data InBody (AnEdge : Edge → Type 0) (AnEntry : ℕ → Type 0) (entry : ℕ) : ℕ → Type 0 where
  entry : InBody AnEdge AnEntry entry entry
  along : {edge : Edge} → InBody AnEdge AnEntry entry edge.from → AnEdge edge
      → StaysIn AnEntry entry edge → InBody AnEdge AnEntry entry edge.to

-- A function of the program: its status says whether its entry returns, and its body lists the
-- starts of its blocks, rising.
pub record IsFunction (map : InstructionMap) (seeds : List ℕ) (function : Function) : Type 0 where
  pub entry : IsEntry map seeds function.entry
  pub status : IsTrue function.returns ↔ Returns map function.entry
  pub body : Lists ◌<◌ (InBody (IsEdge map seeds) (IsEntry map seeds) function.entry) function.body

-- A jump from the block at this address to that one is a tail call, for these entries and bodies.
-- It leads to an entry, and the block is not in the body of that entry.
pub record IsTail (AnEntry : ℕ → Type 0) (IsIn : ℕ → ℕ → Type 0) (from to : ℕ) : Type 0 where
  pub entry : AnEntry to
  pub outside : ¬ IsIn to from

-- The same in the program.
abbrev pub IsTailCall : InstructionMap → List ℕ → ℕ → ℕ → Type 0
IsTailCall map seeds = IsTail (IsEntry map seeds) (InBody (IsEdge map seeds) (IsEntry map seeds))

-- An edge of the graph: an edge between blocks, of kind tail if it is a jump that is a tail call.
pub data IsMarkedEdge (map : InstructionMap) (seeds : List ℕ) : Edge → Type 0 where
  other : {edge : Edge} → IsEdge map seeds edge → edge.kind ≢ kinds.Jump
      → IsMarkedEdge map seeds edge
  jump : {edge : Edge} → IsEdge map seeds edge → edge.kind ≡ kinds.Jump
      → ¬ IsTailCall map seeds edge.from edge.to → IsMarkedEdge map seeds edge
  tail : {edge : Edge} → IsEdge map seeds edge → edge.kind ≡ kinds.Jump
      → IsTailCall map seeds edge.from edge.to
      → IsMarkedEdge map seeds (record edge { kind = kinds.Tail })
