-- Every step of the written machine is a move that the graph of its program accounts for.
use Rattle.std.specs.Prelude.{◌≡◌, ℕ, ◌+◌, ◌<◌, List, All, ℤ, Option, Some, true, false}
use Rattle.elf_image.specs.Faults.{IsImage}
use Rattle.rv_decode.specs.declared.instructions.Insn.TheVariants.{Jalr}
use Rattle.rv_flow.specs.Placed.{placed_at}
use Rattle.rv_flow.specs.Raw.{pair_target}
use Rattle.cfg_model.specs.declared.flow.Flow.TheVariants.{Table}
use Rattle.cfg_model.specs.declared.graph.EdgeKind.TheVariants as kinds
use Rattle.cfg_model.specs.declared.graph.Outline.{Outline}
use Rattle.cfg_model.specs.Program.Instructions.{InstructionMap, flow_at}
use Rattle.cfg_model.specs.Program.Reach.{AreSeeds, Reached}
use Rattle.cfg_model.specs.Graph.Graph.{IsOutline}
use Rattle.code_view.specs.Cuts.{CutsFit}
use Rattle.code_view.specs.Program.{program_under}
use Rattle.rv_machine.specs.State.{State}
use Rattle.rv_machine.specs.Memory.{Bytes}
use Rattle.edge_cover.specs.declared.moves.Move.{Move}
use Rattle.edge_cover.specs.declared.moves.Move.TheVariants.{Along}
use Rattle.edge_cover.specs.Move.{IsMoveOf}
use Rattle.edge_cover.specs.Covered.{IsCovered}
use Rattle.edge_cover.specs.Runs.{StepsTo}
use Rattle.edge_cover.specs.TableRun.{IsTableRun}

-- The outline of the program of an accepted file, under table cuts that fit and from these seeds.
pub record IsOutlineOfFile (bytes : List ℕ) (cuts : ℕ → Option ℕ) (seeds : List ℕ)
    (outline : Outline) : Type 0 where
  pub accepted : IsImage bytes
  pub fit : CutsFit bytes cuts
  pub start : AreSeeds (program_under bytes cuts) seeds
  pub is : IsOutline (program_under bytes cuts) seeds outline.blocks outline.edges

-- The instruction at a is a JALR to the target that the LUI or AUIPC right before it pairs with it.
pub record IsPaired (bytes : List ℕ) (a : ℕ) : Type 0 where
  pub rd : ℕ
  pub rs1 : ℕ
  pub imm : ℤ
  pub target : ℕ
  pub jumps : (placed_at bytes a).insn ≡ Some (Jalr rd rs1 imm)
  pub pair : pair_target bytes a rs1 imm ≡ Some target

-- The instruction at a jumps through a table with a bound test, all of whose entries are kept.
pub record IsFullTable (map : InstructionMap) (a : ℕ) : Type 0 where
  pub entries : ℕ
  pub jumps : flow_at map a ≡ Some (Table entries true false)

-- From every state whose program counter is reachable, each step is covered. Excepted are steps at
-- the JALR of a pair, and at a jump through a full table with a bound test.
abbrev pub StepsAreCovered : Type 0
StepsAreCovered =
    (bytes : List ℕ) (cuts : ℕ → Option ℕ) (seeds : List ℕ) (outline : Outline)
    → IsOutlineOfFile bytes cuts seeds outline
    → (state after : State) (memory left : Bytes)
    → Reached (program_under bytes cuts) seeds state.pc
    → ¬ IsPaired bytes state.pc → ¬ IsFullTable (program_under bytes cuts) state.pc
    → StepsTo bytes state memory after left
    → (move : Move) → IsMoveOf (program_under bytes cuts) outline state.pc after.pc move
    → IsCovered move

-- So is each step at the JALR of a pair that comes right after the step at its LUI or AUIPC.
abbrev pub PairsAreCovered : Type 0
PairsAreCovered =
    (bytes : List ℕ) (cuts : ℕ → Option ℕ) (seeds : List ℕ) (outline : Outline)
    → IsOutlineOfFile bytes cuts seeds outline
    → (before state after : State) (start memory left : Bytes)
    → Reached (program_under bytes cuts) seeds state.pc
    → IsPaired bytes state.pc → before.pc + 4 ≡ state.pc
    → StepsTo bytes before start state memory → StepsTo bytes state memory after left
    → (move : Move) → IsMoveOf (program_under bytes cuts) outline state.pc after.pc move
    → IsCovered move

-- And each step at a jump through a full table with a bound test goes along an edge of kind `table`,
-- if it ends a run that begins just before the test, where its limit is set, and goes through the
-- test. The numbers of the file are bytes.
abbrev pub TableRunsAreCovered : Type 0
TableRunsAreCovered =
    (bytes : List ℕ) (cuts : ℕ → Option ℕ) (seeds : List ℕ) (outline : Outline)
    → IsOutlineOfFile bytes cuts seeds outline → All (λ byte. byte < 256) bytes
    → (state after : State) (memory left : Bytes)
    → Reached (program_under bytes cuts) seeds state.pc
    → IsFullTable (program_under bytes cuts) state.pc
    → IsTableRun bytes state.pc state memory → StepsTo bytes state memory after left
    → (move : Move) → IsMoveOf (program_under bytes cuts) outline state.pc after.pc move
    → move ≡ Along kinds.Table
