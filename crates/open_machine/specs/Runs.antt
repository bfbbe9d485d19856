-- Runs of the open machine.
use Rattle.std.specs.Prelude.{◌≡◌, ℕ, List}
use Rattle.rv_machine.specs.State.{State}
use Rattle.open_machine.specs.World.{World}
use Rattle.open_machine.specs.Asked.{Surroundings}
use Rattle.open_machine.specs.Step.{Goes, open_step}

-- The open machine makes a step from one state and world to others.
abbrev pub OpenStepsTo
    : List ℕ → Surroundings → State → World → State → World
    → Type 0
OpenStepsTo bytes surroundings state world after left =
    open_step bytes surroundings state world ≡ Goes after left

-- It goes on by any number of steps, one after another.
pub data OpenGoesOn (bytes : List ℕ) (surroundings : Surroundings)
    : State → World → State → World → Type 0 where
  here : {state : State} {world : World} → OpenGoesOn bytes surroundings state world state world
  onward : {state next last : State} {world left end : World}
      → OpenStepsTo bytes surroundings state world next left
      → OpenGoesOn bytes surroundings next left last end
      → OpenGoesOn bytes surroundings state world last end
