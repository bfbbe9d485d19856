-- Every step reads and writes the registers that its instruction is said to read and write.
use Rattle.std.specs.Prelude.{◌≡◌, ℕ, ◌<◌, ◌||◌, Bool, IsTrue, IsFalse, List, Option}
use Rattle.rv_decode.specs.declared.instructions.Insn.{Insn}
use Rattle.rv_flow.specs.Placed.{placed_at}
use Rattle.rv_machine.specs.Registers.{held}
use Rattle.rv_machine.specs.State.{State}
use Rattle.rv_machine.specs.Memory.{Bytes}
use Rattle.rv_machine.specs.Step.{step_of}
use Rattle.open_machine.specs.World.{World}
use Rattle.open_machine.specs.Asked.{Surroundings}
use Rattle.open_machine.specs.Step.{open_step}
use Rattle.open_machine.specs.Runs.{OpenStepsTo}
use Rattle.edge_cover.specs.Runs.{StepsTo}
use Rattle.live_regs.specs.Effects.{reads, writes}
use Rattle.free_laws.specs.Agree.{Agree, EndAlike, OpenEndAlike}

-- The instruction at the program counter.
abbrev pub insn_of : List ℕ → State → Option Insn
insn_of bytes state = (placed_at bytes state.pc).insn

-- Two states with one memory that agree in the registers that the instruction reads make the same
-- step of the written machine: the same trap; or the same next address, memory and reservation, and
-- the same values in the registers that it writes.
abbrev pub StepsReadWhatIsSaid : Type 0
StepsReadWhatIsSaid =
    (bytes : List ℕ) (one other : State) (memory : Bytes)
    → Agree (λ r. IsTrue (reads (insn_of bytes one) r)) one other
    → EndAlike (λ r. IsTrue (writes (insn_of bytes one) r)) (step_of bytes one memory)
    (step_of bytes other memory)

-- In a step of the written machine every register that the instruction does not write keeps its
-- value.
abbrev pub StepsWriteWhatIsSaid : Type 0
StepsWriteWhatIsSaid =
    (bytes : List ℕ) (state after : State) (memory left : Bytes)
    → StepsTo bytes state memory after left
    → (r : ℕ) → r < 32 → IsFalse (writes (insn_of bytes state) r)
    → held after.registers r ≡ held state.registers r

-- The instruction reads xr or writes it.
abbrev pub reads_or_writes : Option Insn → ℕ → Bool
reads_or_writes insn r = reads insn r || writes insn r

-- Two states in one world that agree in the registers that the instruction reads make the same step
-- of the open machine, whatever its surroundings are: the run ends at the same trap; or it goes on at
-- the same address, with the same reservation and in the same world, and with the same values in the
-- registers that the instruction reads or writes.
abbrev pub OpenStepsReadWhatIsSaid : Type 0
OpenStepsReadWhatIsSaid =
    (bytes : List ℕ) (surroundings : Surroundings) (one other : State) (world : World)
    → Agree (λ r. IsTrue (reads (insn_of bytes one) r)) one other
    → OpenEndAlike (λ r. IsTrue (reads_or_writes (insn_of bytes one) r))
    (open_step bytes surroundings one world) (open_step bytes surroundings other world)

-- Every register that the instruction neither reads nor writes keeps its value, whatever the
-- surroundings are. So a system call may change only what ECALL is said to read.
abbrev pub OpenStepsWriteWhatIsSaid : Type 0
OpenStepsWriteWhatIsSaid =
    (bytes : List ℕ) (surroundings : Surroundings) (state after : State) (world left : World)
    → OpenStepsTo bytes surroundings state world after left
    → (r : ℕ) → r < 32 → IsFalse (reads_or_writes (insn_of bytes state) r)
    → held after.registers r ≡ held state.registers r
