-- Orderly runs of the open machine.
use Rattle.std.specs.Prelude.{◌≡◌, ℕ, ◌⊎◌, List, [], Contains, Option}
use Rattle.cfg_model.specs.declared.graph.Graph.{Graph}
use Rattle.code_view.specs.Program.{program_under}
use Rattle.rv_machine.specs.State.{State}
use Rattle.open_machine.specs.World.{World}
use Rattle.open_machine.specs.Asked.{Surroundings}
use Rattle.open_machine.specs.Runs.{OpenStepsTo}
use Rattle.free_laws.specs.Keeping.{IsPrepared}
use Rattle.run_laws.specs.Frames.{Frame}
use Rattle.run_laws.specs.Orderly.{IsEntryIn, IsOrderly}

-- Where a run has come to: the state of the machine, its memory and the hidden state of its
-- surroundings, and the calls that have not come back, the last one first.
pub record Point : Type 0 where
  pub state : State
  pub world : World
  pub frames : List Frame

-- One step of an orderly run: the machine or its surroundings make it, it is prepared, and it is
-- orderly.
pub record StepsOrderly (bytes : List ℕ) (surroundings : Surroundings) (cuts : ℕ → Option ℕ)
    (graph : Graph) (from to : Point) : Type 0 where
  pub steps : OpenStepsTo bytes surroundings from.state from.world to.state to.world
  pub prepared : IsPrepared bytes cuts from.state from.world.memory
  pub orderly : IsOrderly (program_under bytes cuts) graph from.state.pc to.state.pc from.frames
      to.frames

-- An orderly run: any number of orderly steps, one after another.
pub data RunsOrderly (bytes : List ℕ) (surroundings : Surroundings) (cuts : ℕ → Option ℕ)
    (graph : Graph) (first : Point) : Point → Type 0 where
  here : RunsOrderly bytes surroundings cuts graph first first
  onward : {from to : Point} → RunsOrderly bytes surroundings cuts graph first from
      → StepsOrderly bytes surroundings cuts graph from to
      → RunsOrderly bytes surroundings cuts graph first to

-- A run begins at a seed, as the entry of the file is, or at the entry of a function of the graph; and
-- no call has been made.
pub record Begins (seeds : List ℕ) (graph : Graph) (first : Point) : Type 0 where
  pub entry : Contains seeds first.state.pc ⊎ IsEntryIn graph first.state.pc
  pub no_frames : first.frames ≡ []

-- A whole run: it begins so, and each step is orderly.
pub record IsWholeRun (bytes : List ℕ) (surroundings : Surroundings) (cuts : ℕ → Option ℕ)
    (seeds : List ℕ) (graph : Graph) (first last : Point) : Type 0 where
  pub begins : Begins seeds graph first
  pub runs : RunsOrderly bytes surroundings cuts graph first last
