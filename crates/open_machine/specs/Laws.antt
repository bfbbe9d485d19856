-- The open machine goes on where the written one does, and without surroundings nowhere else.
use Rattle.std.specs.Prelude.{◌≡◌, ℕ, List}
use Rattle.rv_machine.specs.State.{State}
use Rattle.rv_machine.specs.Memory.{Bytes}
use Rattle.rv_machine.specs.Step.{step_of}
use Rattle.rv_machine.specs.Step as machine
use Rattle.open_machine.specs.World.{World, with_memory}
use Rattle.open_machine.specs.Asked.{Surroundings, no_surroundings}
use Rattle.open_machine.specs.Step.{Goes, open_step}

-- Every step of the written machine is one of the open machine, with the same hidden state.
abbrev pub WrittenStepsAreOpen : Type 0
WrittenStepsAreOpen =
    (bytes : List ℕ) (surroundings : Surroundings)
    (state after : State) (world : World) (left : Bytes)
    → step_of bytes state world.memory ≡ machine.Goes after left
    → open_step bytes surroundings state world ≡ Goes after (with_memory world left)

-- With surroundings that always end the run, every step of the open machine is one of the written
-- machine.
abbrev pub AloneItIsTheWritten : Type 0
AloneItIsTheWritten =
    (bytes : List ℕ) (state after : State) (world left : World)
    → open_step bytes (no_surroundings) state world ≡ Goes after left
    → step_of bytes state world.memory ≡ machine.Goes after left.memory
