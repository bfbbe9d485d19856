-- Every step of the open machine is a move that the graph of its program accounts for, whatever its
-- surroundings are.
use Rattle.std.specs.Prelude.{◌≡◌, ℕ, ◌+◌, ◌<◌, ◌^◌, IsTrue, List, All, Option}
use Rattle.elf_image.specs.Fixed.{is_fixed_byte}
use Rattle.cfg_model.specs.declared.graph.EdgeKind.TheVariants as kinds
use Rattle.cfg_model.specs.declared.graph.Outline.{Outline}
use Rattle.cfg_model.specs.Program.Reach.{Reached}
use Rattle.code_view.specs.Program.{program_under}
use Rattle.rv_machine.specs.State.{State}
use Rattle.open_machine.specs.World.{World}
use Rattle.open_machine.specs.Asked.{Surroundings, KeepsFixedBytes}
use Rattle.open_machine.specs.Runs.{OpenStepsTo, OpenGoesOn}
use Rattle.edge_cover.specs.declared.moves.Move.{Move}
use Rattle.edge_cover.specs.declared.moves.Move.TheVariants.{Along}
use Rattle.edge_cover.specs.Move.{IsMoveOf}
use Rattle.edge_cover.specs.Covered.{IsCovered}
use Rattle.edge_cover.specs.TableRun.{IsTableRun}
use Rattle.edge_cover.specs.Cover.{IsOutlineOfFile, IsPaired, IsFullTable}

-- From every state whose program counter is reachable, each step is covered. Excepted are steps at
-- the JALR of a pair, and at a jump through a full table with a bound test.
abbrev pub OpenStepsAreCovered : Type 0
OpenStepsAreCovered =
    (bytes : List ℕ) (cuts : ℕ → Option ℕ) (seeds : List ℕ) (outline : Outline)
    → IsOutlineOfFile bytes cuts seeds outline
    → (surroundings : Surroundings) (state after : State) (world left : World)
    → Reached (program_under bytes cuts) seeds state.pc
    → ¬ IsPaired bytes state.pc → ¬ IsFullTable (program_under bytes cuts) state.pc
    → OpenStepsTo bytes surroundings state world after left
    → (move : Move) → IsMoveOf (program_under bytes cuts) outline state.pc after.pc move
    → IsCovered move

-- So is each step at the JALR of a pair that comes right after the step at its LUI or AUIPC.
abbrev pub OpenPairsAreCovered : Type 0
OpenPairsAreCovered =
    (bytes : List ℕ) (cuts : ℕ → Option ℕ) (seeds : List ℕ) (outline : Outline)
    → IsOutlineOfFile bytes cuts seeds outline
    → (surroundings : Surroundings) (before state after : State) (start world left : World)
    → Reached (program_under bytes cuts) seeds state.pc
    → IsPaired bytes state.pc → before.pc + 4 ≡ state.pc
    → OpenStepsTo bytes surroundings before start state world
    → OpenStepsTo bytes surroundings state world after left
    → (move : Move) → IsMoveOf (program_under bytes cuts) outline state.pc after.pc move
    → IsCovered move

-- And each step at a jump through a full table with a bound test goes along an edge of kind `table`,
-- if it ends a run of the written machine that begins just before the test, where its limit is set,
-- and goes through the test. So the surroundings make no step between the test and the jump. The
-- numbers of the file are bytes.
abbrev pub OpenTableRunsAreCovered : Type 0
OpenTableRunsAreCovered =
    (bytes : List ℕ) (cuts : ℕ → Option ℕ) (seeds : List ℕ) (outline : Outline)
    → IsOutlineOfFile bytes cuts seeds outline → All (λ byte. byte < 256) bytes
    → (surroundings : Surroundings) (state after : State) (world left : World)
    → Reached (program_under bytes cuts) seeds state.pc
    → IsFullTable (program_under bytes cuts) state.pc
    → IsTableRun bytes state.pc state world.memory
    → OpenStepsTo bytes surroundings state world after left
    → (move : Move) → IsMoveOf (program_under bytes cuts) outline state.pc after.pc move
    → move ≡ Along kinds.Table

-- After any number of steps the byte at an address in a code section or a read-only section is what
-- it was, if the surroundings change no such byte.
abbrev pub OpenFixedBytesStay : Type 0
OpenFixedBytesStay =
    (bytes : List ℕ) (surroundings : Surroundings) (state last : State) (world end : World)
    → KeepsFixedBytes bytes surroundings
    → OpenGoesOn bytes surroundings state world last end
    → (a : ℕ) → a < 2 ^ 64 → IsTrue (is_fixed_byte bytes a) → end.memory a ≡ world.memory a
