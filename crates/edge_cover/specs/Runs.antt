-- Runs of the machine.
use Rattle.std.specs.Prelude.{◌≡◌, ◌≢◌, ℕ, List}
use Rattle.rv_machine.specs.State.{State}
use Rattle.rv_machine.specs.Memory.{Bytes}
use Rattle.rv_machine.specs.Step.{Goes, step_of}

-- The machine makes a step from one state and memory to others.
abbrev pub StepsTo : List ℕ → State → Bytes → State → Bytes → Type 0
StepsTo bytes state memory after left = step_of bytes state memory ≡ Goes after left

-- The machine goes on, one step after another without a trap, until its program counter is at j for
-- the first time: from one state and memory to others.
pub data ComesTo (bytes : List ℕ) (j : ℕ) : State → Bytes → State → Bytes → Type 0 where
  there : {state : State} {memory : Bytes} → state.pc ≡ j
      → ComesTo bytes j state memory state memory
  onward : {state next last : State} {memory left end : Bytes} → state.pc ≢ j
      → StepsTo bytes state memory next left → ComesTo bytes j next left last end
      → ComesTo bytes j state memory last end

-- The machine goes on by any number of steps, one after another without a trap, from one state and
-- memory to others.
pub data GoesOn (bytes : List ℕ) : State → Bytes → State → Bytes → Type 0 where
  here : {state : State} {memory : Bytes} → GoesOn bytes state memory state memory
  onward : {state next last : State} {memory left end : Bytes}
      → StepsTo bytes state memory next left → GoesOn bytes next left last end
      → GoesOn bytes state memory last end
