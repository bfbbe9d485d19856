-- Runs of the open machine within the body of a function, by the graph.
use Rattle.std.specs.Prelude.{◌≡◌, ◌≢◌, ℕ, ◌+◌, zero, suc, List}
use Rattle.cfg_model.specs.declared.graph.Block.{Block}
use Rattle.cfg_model.specs.declared.graph.EdgeKind.{EdgeKind}
use Rattle.cfg_model.specs.declared.graph.EdgeKind.TheVariants as kinds
use Rattle.cfg_model.specs.declared.graph.Graph.{Graph}
use Rattle.rv_flow.specs.Placed.{placed_at}
use Rattle.rv_machine.specs.State.{State}
use Rattle.open_machine.specs.World.{World}
use Rattle.open_machine.specs.Asked.{Surroundings}
use Rattle.open_machine.specs.Runs.{OpenStepsTo}
use Rattle.edge_cover.specs.declared.moves.Move.{Move}
use Rattle.edge_cover.specs.declared.moves.Move.TheVariants.{Inside, Along}
use Rattle.edge_cover.specs.Move.{move_in}
use Rattle.live_regs.specs.Live.{IsBlockIn}

-- A run has come to a block, with this state of the machine and in this world.
pub record Place : Type 0 where
  pub block : Block
  pub state : State
  pub world : World

-- The same place in another state.
abbrev pub with_state : Place → State → Place
with_state place state = record place { state = state }

-- The address after the instruction at the program counter.
abbrev pub next_of : List ℕ → State → ℕ
next_of bytes state = state.pc + (placed_at bytes state.pc).length

-- The move of a step to an address, in the block that the run has come to.
abbrev pub move_from : List ℕ → Graph → Place → ℕ → Move
move_from bytes graph place to = move_in place.block graph.edges (next_of bytes place.state) to

-- The run comes to an address by this move and stays within the body: on within its block, or along
-- an edge that is no call to the start of a block of the body.
pub data StaysBy (graph : Graph) (body : List ℕ) (from to : Block) (pc : ℕ) : Move → Type 0 where
  inside : to ≡ from → StaysBy graph body from to pc Inside
  along : {kind : EdgeKind} → kind ≢ kinds.Call → IsBlockIn graph.blocks body pc to
      → StaysBy graph body from to pc (Along kind)

-- A step within the body.
pub record StepsWithin (bytes : List ℕ) (surroundings : Surroundings) (graph : Graph)
    (body : List ℕ) (from to : Place) : Type 0 where
  pub steps : OpenStepsTo bytes surroundings from.state from.world to.state to.world
  pub stays : StaysBy graph body from.block to.block to.state.pc
      (move_from bytes graph from to.state.pc)

-- So many steps within the body, one after another.
pub data RunsWithin (bytes : List ℕ) (surroundings : Surroundings) (graph : Graph)
    (body : List ℕ) : ℕ → Place → Place → Type 0 where
  here : {place : Place} → RunsWithin bytes surroundings graph body zero place place
  onward : {n : ℕ} {from next to : Place}
      → StepsWithin bytes surroundings graph body from next
      → RunsWithin bytes surroundings graph body n next to
      → RunsWithin bytes surroundings graph body (suc n) from to
