-- The laws of steps and of free registers, of a graph in a report.
use Rattle.std.specs.Prelude.{◌≡◌, ℕ, ◌+◌, List, Option}
use Rattle.cfg_model.specs.declared.graph.EdgeKind.TheVariants as kinds
use Rattle.cfg_model.specs.declared.graph.Graph.{Graph}
use Rattle.cfg_model.specs.Program.Reach.{Reached}
use Rattle.code_view.specs.Program.{program_under}
use Rattle.rv_machine.specs.State.{State}
use Rattle.rv_machine.specs.Memory.{Bytes}
use Rattle.open_machine.specs.World.{World}
use Rattle.open_machine.specs.Asked.{Surroundings}
use Rattle.open_machine.specs.Runs.{OpenStepsTo}
use Rattle.edge_cover.specs.declared.moves.Move.{Move}
use Rattle.edge_cover.specs.declared.moves.Move.TheVariants.{Along}
use Rattle.edge_cover.specs.Move.{IsMoveOf}
use Rattle.edge_cover.specs.Covered.{IsCovered}
use Rattle.edge_cover.specs.Cover.{IsPaired, IsFullTable}
use Rattle.edge_cover.specs.Runs.{StepsTo}
use Rattle.edge_cover.specs.TableRun.{IsTableRun}
use Rattle.live_regs.specs.Live.{IsBlockIn}
use Rattle.free_laws.specs.Agree.{OpenEndAlike}
use Rattle.free_laws.specs.Within.{Place, with_state, RunsWithin}
use Rattle.free_laws.specs.Free.{BeginAlike, AgreeAt, KeepsToGraph, after_steps}
use Rattle.free_laws.specs.Keeping.{IsPrepared}
use Rattle.run_laws.specs.Outline.{outline_of}

-- A step from a reachable address is covered, but at the JALR of a pair and at a jump through a full
-- table with a bound test.
abbrev pub StepsCovered : List ℕ → (ℕ → Option ℕ) → List ℕ → Graph → Type 0
StepsCovered bytes cuts seeds graph =
    (state after : State) (memory left : Bytes)
    → Reached (program_under bytes cuts) seeds state.pc
    → ¬ IsPaired bytes state.pc → ¬ IsFullTable (program_under bytes cuts) state.pc
    → StepsTo bytes state memory after left
    → (move : Move)
    → IsMoveOf (program_under bytes cuts) (outline_of graph) state.pc after.pc move
    → IsCovered move

-- So is a step at the JALR of a pair, right after the step at its LUI or AUIPC.
abbrev pub PairsCovered : List ℕ → (ℕ → Option ℕ) → List ℕ → Graph → Type 0
PairsCovered bytes cuts seeds graph =
    (before state after : State) (start memory left : Bytes)
    → Reached (program_under bytes cuts) seeds state.pc
    → IsPaired bytes state.pc → before.pc + 4 ≡ state.pc
    → StepsTo bytes before start state memory → StepsTo bytes state memory after left
    → (move : Move)
    → IsMoveOf (program_under bytes cuts) (outline_of graph) state.pc after.pc move
    → IsCovered move

-- A jump through a full table goes along an edge of kind `table`, after a run through its bound test.
abbrev pub TableRunsCovered : List ℕ → (ℕ → Option ℕ) → List ℕ → Graph → Type 0
TableRunsCovered bytes cuts seeds graph =
    (state after : State) (memory left : Bytes)
    → Reached (program_under bytes cuts) seeds state.pc
    → IsFullTable (program_under bytes cuts) state.pc
    → IsTableRun bytes state.pc state memory → StepsTo bytes state memory after left
    → (move : Move)
    → IsMoveOf (program_under bytes cuts) (outline_of graph) state.pc after.pc move
    → move ≡ Along kinds.Table

-- The same of steps of the open machine, whatever its surroundings are.
abbrev pub OpenStepsCovered : List ℕ → (ℕ → Option ℕ) → List ℕ → Graph → Type 0
OpenStepsCovered bytes cuts seeds graph =
    (surroundings : Surroundings) (state after : State) (world left : World)
    → Reached (program_under bytes cuts) seeds state.pc
    → ¬ IsPaired bytes state.pc → ¬ IsFullTable (program_under bytes cuts) state.pc
    → OpenStepsTo bytes surroundings state world after left
    → (move : Move)
    → IsMoveOf (program_under bytes cuts) (outline_of graph) state.pc after.pc move
    → IsCovered move

abbrev pub OpenPairsCovered : List ℕ → (ℕ → Option ℕ) → List ℕ → Graph → Type 0
OpenPairsCovered bytes cuts seeds graph =
    (surroundings : Surroundings) (before state after : State) (start world left : World)
    → Reached (program_under bytes cuts) seeds state.pc
    → IsPaired bytes state.pc → before.pc + 4 ≡ state.pc
    → OpenStepsTo bytes surroundings before start state world
    → OpenStepsTo bytes surroundings state world after left
    → (move : Move)
    → IsMoveOf (program_under bytes cuts) (outline_of graph) state.pc after.pc move
    → IsCovered move

-- The run through the bound test is one of the written machine.
abbrev pub OpenTableRunsCovered : List ℕ → (ℕ → Option ℕ) → List ℕ → Graph → Type 0
OpenTableRunsCovered bytes cuts seeds graph =
    (surroundings : Surroundings) (state after : State) (world left : World)
    → Reached (program_under bytes cuts) seeds state.pc
    → IsFullTable (program_under bytes cuts) state.pc
    → IsTableRun bytes state.pc state world.memory
    → OpenStepsTo bytes surroundings state world after left
    → (move : Move)
    → IsMoveOf (program_under bytes cuts) (outline_of graph) state.pc after.pc move
    → move ≡ Along kinds.Table

-- Runs within a body from states that agree in what is live come to the same places, and agree there.
abbrev pub RunsAlike : List ℕ → (ℕ → Option ℕ) → List ℕ → Graph → Type 0
RunsAlike bytes cuts seeds graph =
    (body : List ℕ) (surroundings : Surroundings) (first last : Place) (other : State) (steps : ℕ)
    → BeginAlike bytes graph body first other
    → RunsWithin bytes surroundings graph body steps first last
    → (reached : State) × AgreeAt bytes surroundings graph body last reached
    × RunsWithin bytes surroundings graph body steps (with_state first other)
    (with_state last reached)

-- They go alike for ever, if one of them keeps to the graph within the body.
abbrev pub FreeForEver : List ℕ → (ℕ → Option ℕ) → List ℕ → Graph → Type 0
FreeForEver bytes cuts seeds graph =
    (body : List ℕ) (surroundings : Surroundings) (first : Place) (other : State)
    → BeginAlike bytes graph body first other
    → KeepsToGraph bytes surroundings graph body first
    → (steps : ℕ)
    → OpenEndAlike (λ r. ⊥) (after_steps bytes surroundings steps first.state first.world)
    (after_steps bytes surroundings steps other first.world)

-- A run keeps to the graph within a body if it is prepared wherever it comes to there.
abbrev pub PreparedKeep : List ℕ → (ℕ → Option ℕ) → List ℕ → Graph → Type 0
PreparedKeep bytes cuts seeds graph =
    (body : List ℕ) (surroundings : Surroundings) (first : Place)
    → IsBlockIn graph.blocks body first.state.pc first.block
    → ((last : Place) (steps : ℕ) → RunsWithin bytes surroundings graph body steps first last
    → IsPrepared bytes cuts last.state last.world.memory)
    → KeepsToGraph bytes surroundings graph body first
