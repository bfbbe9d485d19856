-- Which runs keep to the graph.
use Rattle.std.specs.Prelude.{◌≡◌, ℕ, ◌+◌, ◌<◌, List, Option, All}
use Rattle.cfg_model.specs.declared.graph.Graph.{Graph}
use Rattle.cfg_model.specs.declared.graph.Outline.{Outline}
use Rattle.code_view.specs.Program.{program_under}
use Rattle.rv_machine.specs.State.{State}
use Rattle.rv_machine.specs.Memory.{Bytes}
use Rattle.open_machine.specs.Asked.{Surroundings}
use Rattle.edge_cover.specs.Cover.{IsOutlineOfFile, IsPaired, IsFullTable}
use Rattle.edge_cover.specs.Runs.{StepsTo}
use Rattle.edge_cover.specs.TableRun.{IsTableRun}
use Rattle.live_regs.specs.Live.{IsBlockIn}
use Rattle.free_laws.specs.Within.{Place, RunsWithin}
use Rattle.free_laws.specs.Free.{IsGraphOfFile, KeepsToGraph}

-- The step before this state was the one at the LUI or AUIPC right before its instruction. The
-- written machine makes it.
pub record ComesFromUpper (bytes : List ℕ) (state : State) (memory : Bytes) : Type 0 where
  pub before : State
  pub start : Bytes
  pub right_before : before.pc + 4 ≡ state.pc
  pub step : StepsTo bytes before start state memory

-- A run has come to this state as the compiler meant it: to the JALR of a pair from its other half,
-- and to a jump through a full table through its bound test. Of other instructions nothing is asked.
pub record IsPrepared (bytes : List ℕ) (cuts : ℕ → Option ℕ) (state : State)
    (memory : Bytes) : Type 0 where
  pub pair : IsPaired bytes state.pc → ComesFromUpper bytes state memory
  pub table : IsFullTable (program_under bytes cuts) state.pc
      → IsTableRun bytes state.pc state memory

-- A run that begins at a block of a body keeps to the graph there if it is prepared at each place of
-- the body that it comes to. The numbers of the file are bytes.
abbrev pub PreparedRunsKeepToGraph : Type 0
PreparedRunsKeepToGraph =
    (bytes : List ℕ) (cuts : ℕ → Option ℕ) (seeds : List ℕ) (outline : Outline) (graph : Graph)
    (body : List ℕ) → IsOutlineOfFile bytes cuts seeds outline
    → IsGraphOfFile bytes cuts seeds graph → All (λ byte. byte < 256) bytes
    → (surroundings : Surroundings) (first : Place)
    → IsBlockIn graph.blocks body first.state.pc first.block
    → ((last : Place) (steps : ℕ) → RunsWithin bytes surroundings graph body steps first last
    → IsPrepared bytes cuts last.state last.world.memory)
    → KeepsToGraph bytes surroundings graph body first
