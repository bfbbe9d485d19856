-- States of the machine that agree in some registers, and steps that end alike.
use Rattle.std.specs.Prelude.{◌≡◌, ℕ, ◌<◌}
use Rattle.rv_machine.specs.declared.trap.Trap.{Trap}
use Rattle.rv_machine.specs.Registers.{held}
use Rattle.rv_machine.specs.State.{State}
use Rattle.rv_machine.specs.Memory.{Bytes}
use Rattle.rv_machine.specs.Step.{Outcome, Traps, Goes}
use Rattle.open_machine.specs.World.{World}
use Rattle.open_machine.specs.Step as outcomes

-- Two states have the same program counter, the same reservation, and the same value in each of
-- these registers. What the other registers hold is not asked; x0 reads 0 in every state.
pub record Agree (Among : ℕ → Type 0) (one other : State) : Type 0 where
  pub pc : one.pc ≡ other.pc
  pub reservation : one.reservation ≡ other.reservation
  pub registers : (r : ℕ) → r < 32 → Among r → held one.registers r ≡ held other.registers r

-- Both end in the same trap; or both go on with the same memory, to states that agree in these
-- registers.
pub data EndAlike (Among : ℕ → Type 0) : Outcome → Outcome → Type 0 where
  trapped : {trap : Trap} → EndAlike Among (Traps trap) (Traps trap)
  gone : {one other : State} {memory : Bytes} → Agree Among one other
      → EndAlike Among (Goes one memory) (Goes other memory)

-- The same of steps of the open machine: both end the run at the same trap; or both go on in the
-- same world, to states that agree in these registers.
pub data OpenEndAlike (Among : ℕ → Type 0) : outcomes.Outcome → outcomes.Outcome → Type 0 where
  ended : {trap : Trap} → OpenEndAlike Among (outcomes.Ends trap) (outcomes.Ends trap)
  gone : {one other : State} {world : World} → Agree Among one other
      → OpenEndAlike Among (outcomes.Goes one world) (outcomes.Goes other world)
