-- The open machine: the written machine with surroundings that make the steps that it does not.
use Rattle.std.specs.Prelude.{ℕ, ◌%◌, ◌^◌, ◌&&◌, Bool, true, false, List, Option, Some, None}
use Rattle.std.specs.Prelude.{if◌then◌else◌}
use Rattle.rv_decode.specs.declared.instructions.Insn.{Insn}
use Rattle.rv_flow.specs.declared.placed.Placed.{Placed}
use Rattle.rv_flow.specs.declared.raw.RawFlow.{RawFlow}
use Rattle.rv_flow.specs.declared.raw.RawFlow.TheVariants.{Straight}
use Rattle.rv_flow.specs.Placed.{placed_at}
use Rattle.rv_flow.specs.Raw.{insn_flow}
use Rattle.rv_machine.specs.declared.cpu.Reserved.{Reserved}
use Rattle.rv_machine.specs.declared.trap.Trap.{Trap}
use Rattle.rv_machine.specs.declared.trap.Trap.TheVariants as traps
use Rattle.rv_machine.specs.Registers.{RegisterFile}
use Rattle.rv_machine.specs.State.{State}
use Rattle.rv_machine.specs.Step.{advanced, step_of}
use Rattle.rv_machine.specs.Step as machine
use Rattle.open_machine.specs.World.{World, with_memory}
use Rattle.open_machine.specs.Asked.{Asked, Reply, Stops, Answers, Surroundings}
use Rattle.open_machine.specs.Asked.{seen_by, may_change}

-- The run ends with the state as it is, at this trap of the written machine; or it goes on.
pub data Outcome : Type 0 where
  Ends : Trap → Outcome
  Goes : State → World → Outcome

-- The traps at instructions that the written machine knows, and does not make.
abbrev pub is_left : Trap → Bool
is_left traps.Ecall = true
is_left traps.Csr = true
is_left traps.Float = true
is_left traps.Unsupported = true
is_left _ = false

-- Control goes straight on after the instruction.
abbrev pub goes_straight : RawFlow → Bool
goes_straight Straight = true
goes_straight _ = false

-- The surroundings are asked where the instruction is left to them and goes straight on. So `unimp`
-- ends the run, and so do the returns and jumps of Zcmp and Zcmt.
abbrev pub is_asked : List ℕ → ℕ → Insn → Trap → Bool
is_asked bytes a insn trap = is_left trap && goes_straight (insn_flow bytes a insn)

-- The registers after a reply: its value, modulo 2 to the power 64, where the instruction may change
-- one, and else what was there.
abbrev pub with_answered : Insn → RegisterFile → RegisterFile → RegisterFile
with_answered insn before values r =
    if may_change insn r then values r % 2 ^ 64 else before r

-- What the surroundings are asked at an instruction.
abbrev pub question : Insn → State → World → Asked
question insn state world = record {
  address = state.pc;
  insn = insn;
  values = seen_by insn state.registers;
  reservation = state.reservation;
  memory = world.memory;
}

-- The state after a reply: at the address after the instruction.
abbrev pub answered_state : ℕ → Insn → State → RegisterFile → Option Reserved → State
answered_state length insn state values reservation = record {
  pc = advanced length state;
  registers = with_answered insn state.registers values;
  reservation = reservation;
}

abbrev pub after_reply : ℕ → Insn → Trap → State → Reply → Outcome
after_reply length insn trap state Stops = Ends trap
after_reply length insn trap state (Answers world values reservation) =
    Goes (answered_state length insn state values reservation) world

-- The step of the surroundings at an instruction of this length, if they are asked there.
abbrev pub asked_step
    : List ℕ → Surroundings → ℕ → Insn → Trap → State → World
    → Outcome
asked_step bytes surroundings length insn trap state world =
    if is_asked bytes state.pc insn trap
    then after_reply length insn trap state (surroundings world.hidden (question insn state world))
    else Ends trap

-- Where the written machine traps, the instruction there may be left to the surroundings.
abbrev pub step_beyond
    : List ℕ → Surroundings → Placed → Trap → State → World
    → Outcome
step_beyond bytes surroundings placed trap state world = elim placed.insn [
  | None ↦ Ends trap
  | Some insn ↦ asked_step bytes surroundings placed.length insn trap state world
]

-- Where the written machine goes on, so does the open one, and the hidden state stays.
abbrev pub step_from
    : List ℕ → Surroundings → machine.Outcome → State → World
    → Outcome
step_from bytes surroundings (machine.Goes after left) state world = Goes after (with_memory world left)
step_from bytes surroundings (machine.Traps trap) state world =
    step_beyond bytes surroundings (placed_at bytes state.pc) trap state world

-- The step of the open machine from a state, in a world.
abbrev pub open_step
    : List ℕ → Surroundings → State → World → Outcome
open_step bytes surroundings state world =
    step_from bytes surroundings (step_of bytes state world.memory) state world
