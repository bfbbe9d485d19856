-- What a worker keeps in mind.
use Rattle.std.specs.Prelude.{ℕ, ◌<◌, ◌-◌, ◌^◌, List, Option, Some}
use Rattle.std.specs.List.{Contains}
use Rattle.builder_model.specs.declared.state.Waiter.{Waiter}
use Rattle.cfg_model.specs.Program.Instructions.{InstructionMap}
use Rattle.builder_model.specs.Fact.{Fact}
use Rattle.board.specs.Seat.{SeatState}
use Rattle.crew.specs.declared.cache.Cache.{Cache}
use Rattle.crew.specs.declared.waiting.Placed.{Placed}
use Rattle.crew.specs.inner.Worker.{KnowsSoundly}

-- The address stands at one of the places. The greatest one stands at those that keep none.
abbrev pub Caches : List ℕ → ℕ → Type 0
Caches places a = Contains places a × (a < 2 ^ 64 - 1)

-- The waiter stands at one of the places, as one that waits at k.
abbrev pub IsPlaced : List (Option Placed) → ℕ → Waiter → Type 0
IsPlaced places k w = Contains places (Some record { at = k; waiter = w })

-- All that is kept in mind the seat knows, and truly: that starts are starts, that terminators are
-- entered, that those return which are kept as returning, and that waiters wait.
pub record AreCached (map : InstructionMap) (seeds : List ℕ) (cache : Cache)
    (seat : SeatState) : Type 0 where
  pub started : (a : ℕ) → Caches cache.starts a → KnowsSoundly map seeds seat (Fact.Start a)
  pub entered : (a : ℕ) → Caches cache.terminators a
      → KnowsSoundly map seeds seat (Fact.Terminator a)
  pub returned : (a : ℕ) → Caches cache.returned a → KnowsSoundly map seeds seat (Fact.Returned a)
  pub waits : (k : ℕ) (w : Waiter) → IsPlaced cache.waiting k w
      → KnowsSoundly map seeds seat (Fact.Waits k w)
