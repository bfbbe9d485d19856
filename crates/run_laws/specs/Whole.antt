-- A whole run stays in the graph, and no-return means no return, whatever the surroundings of the
-- machine are.
use Rattle.std.specs.Prelude.{◌≡◌, ℕ, ◌+◌, ◌<◌, List, [], All, Contains, Option, Some, None}
use Rattle.std.specs.Prelude.{IsTrue, IsFalse}
use Rattle.cfg_model.specs.declared.flow.Flow.TheVariants.{Return}
use Rattle.cfg_model.specs.declared.graph.EdgeKind.TheVariants.{After}
use Rattle.cfg_model.specs.declared.graph.EndKind.{EndKind}
use Rattle.cfg_model.specs.declared.graph.EndKind.TheVariants as ends
use Rattle.cfg_model.specs.declared.graph.Function.{Function}
use Rattle.cfg_model.specs.declared.graph.Graph.{Graph}
use Rattle.cfg_model.specs.Program.Instructions.{Instruction, flow_at}
use Rattle.cfg_model.specs.Graph.Places.{HasABlock}
use Rattle.cfg_model.specs.Inner.Ways.{edge_to}
use Rattle.code_view.specs.Program.{program_under}
use Rattle.rv_flow.specs.Placed.{placed_at}
use Rattle.open_machine.specs.Asked.{Surroundings}
use Rattle.edge_cover.specs.declared.moves.Move.{Move}
use Rattle.edge_cover.specs.declared.moves.Move.TheVariants.{Inside, Along, Out}
use Rattle.edge_cover.specs.Move.{move_in}
use Rattle.free_laws.specs.Free.{IsGraphOfFile}
use Rattle.run_laws.specs.Frames.{running}
use Rattle.run_laws.specs.Orderly.{TakesFrame}
use Rattle.run_laws.specs.Runs.{Point, StepsOrderly, IsWholeRun}

-- The kinds of blocks that an orderly run leaves where no edge leads: by a return or an unwinding, by
-- a call or a jump through a register; and by a branch or straight on to where no instruction stands.
abbrev pub MayBeLeftTo : Option Instruction → EndKind → Type 0
MayBeLeftTo there ends.Return = Unit {0}
MayBeLeftTo there ends.Unknown = Unit {0}
MayBeLeftTo there ends.IndirectCall = Unit {0}
MayBeLeftTo there ends.BranchOut = there ≡ None
MayBeLeftTo there ends.Stop = there ≡ None
MayBeLeftTo there _ = ⊥

-- A move within a block, along an edge, or out of a block of such a kind.
abbrev pub IsOrderlyMove : Option Instruction → Move → Type 0
IsOrderlyMove there Inside = Unit {0}
IsOrderlyMove there (Along kind) = Unit {0}
IsOrderlyMove there (Out kind) = MayBeLeftTo there kind

-- A step stays in the graph: the address that it is made at lies in a block, and its move is one of
-- those.
pub record StaysInGraph (bytes : List ℕ) (cuts : ℕ → Option ℕ) (seeds : List ℕ) (graph : Graph)
    (from to : ℕ) : Type 0 where
  pub has : HasABlock (program_under bytes cuts) seeds graph.blocks from
  pub move : IsOrderlyMove (program_under bytes cuts to)
      (move_in has.block graph.edges (from + (placed_at bytes from).length) to)

-- Each step of a whole run stays in the graph.
abbrev pub RunsStay : List ℕ → (ℕ → Option ℕ) → List ℕ → Graph → Type 0
RunsStay bytes cuts seeds graph =
    (surroundings : Surroundings) (first from to : Point)
    → IsWholeRun bytes surroundings cuts seeds graph first from
    → StepsOrderly bytes surroundings cuts graph from to
    → StaysInGraph bytes cuts seeds graph from.state.pc to.state.pc

-- Where a whole run comes to a return, the graph says of the function that runs that it returns.
abbrev pub ReturnsAreSaid : List ℕ → (ℕ → Option ℕ) → List ℕ → Graph → Type 0
ReturnsAreSaid bytes cuts seeds graph =
    (surroundings : Surroundings) (first last : Point)
    → IsWholeRun bytes surroundings cuts seeds graph first last
    → flow_at (program_under bytes cuts) last.state.pc ≡ Some Return
    → (function : Function) → Contains graph.functions function
    → function.entry ≡ running first.state.pc last.frames → IsTrue function.returns

-- So no step takes the frame of a call that went to a function of which the graph says that it does
-- not return.
abbrev pub NoReturnIsNotTaken : List ℕ → (ℕ → Option ℕ) → List ℕ → Graph → Type 0
NoReturnIsNotTaken bytes cuts seeds graph =
    (surroundings : Surroundings) (first from to : Point)
    → IsWholeRun bytes surroundings cuts seeds graph first from
    → StepsOrderly bytes surroundings cuts graph from to
    → (taken : TakesFrame (program_under bytes cuts) from.state.pc to.state.pc from.frames
    to.frames)
    → (function : Function) → Contains graph.functions function
    → function.entry ≡ taken.frame.entry → IsFalse function.returns → ⊥

-- And a whole run that begins at such a function never comes to a return with no frame, where it
-- would end.
abbrev pub NoReturnNeverEnds : List ℕ → (ℕ → Option ℕ) → List ℕ → Graph → Type 0
NoReturnNeverEnds bytes cuts seeds graph =
    (surroundings : Surroundings) (first last : Point)
    → IsWholeRun bytes surroundings cuts seeds graph first last
    → (function : Function) → Contains graph.functions function
    → function.entry ≡ first.state.pc → IsFalse function.returns → last.frames ≡ []
    → flow_at (program_under bytes cuts) last.state.pc ≡ Some Return → ⊥

-- A graph has the edge from the block of a call to the address that it returns to.
pub record HasAfter (bytes : List ℕ) (cuts : ℕ → Option ℕ) (seeds : List ℕ) (graph : Graph)
    (call to : ℕ) : Type 0 where
  pub has : HasABlock (program_under bytes cuts) seeds graph.blocks call
  pub edge : Contains graph.edges (edge_to has.block.start After to)

-- A return goes back to a call only if the graph has the edge of kind `after` of that call.
abbrev pub ReturnsHaveEdges : List ℕ → (ℕ → Option ℕ) → List ℕ → Graph → Type 0
ReturnsHaveEdges bytes cuts seeds graph =
    (surroundings : Surroundings) (first from to : Point)
    → IsWholeRun bytes surroundings cuts seeds graph first from
    → StepsOrderly bytes surroundings cuts graph from to
    → (taken : TakesFrame (program_under bytes cuts) from.state.pc to.state.pc from.frames
    to.frames)
    → HasAfter bytes cuts seeds graph taken.frame.call to.state.pc

-- Such a law holds of every graph of the program of an accepted file, under table cuts that fit and
-- from any seeds. The numbers of the file are bytes.
abbrev pub OfEachFile : (List ℕ → (ℕ → Option ℕ) → List ℕ → Graph → Type 0) → Type 0
OfEachFile Law =
    (bytes : List ℕ) (cuts : ℕ → Option ℕ) (seeds : List ℕ) (graph : Graph)
    → IsGraphOfFile bytes cuts seeds graph → All (λ byte. byte < 256) bytes
    → Law bytes cuts seeds graph
