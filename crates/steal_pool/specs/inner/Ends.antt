-- What a hand keeps of its own deque and of its end of each deque.
use Rattle.std.specs.Prelude.{◌≡◌, ◌≢◌, ℕ, ◌+◌, ◌<◌, ◌≤◌, List, [], map, length, slice_get, Some}
use Rattle.std.specs.Prelude.{sum_by}
use Rattle.std.specs.declared.alloc.Global.{Global}
use Rattle.core_state.specs.declared.answer.Name.{Name}
use Rattle.crossbeam_deque.specs.declared.handles.Worker.{Worker}
use Rattle.crossbeam_deque.specs.Handles.{view, IsPassOf, stealer_deque, stealer_flavor}
use Rattle.crossbeam_deque.specs.Handles.{worker_deque, worker_flavor, worker_view, worker_index}
use Rattle.crossbeam_deque.specs.Handles.{worker_capacity}
use Rattle.steal_pool.specs.declared.note.Note.{Note}
use Rattle.steal_pool.specs.declared.end.End.{End}
use Rattle.steal_pool.specs.Pool.{DequeId}

-- Which deque the end is of, and what its pass has noted.
abbrev pub deque_of : End → DequeId
deque_of e = stealer_deque e.thief

abbrev pub note_of : End → Note
note_of e = view e.pass

-- The end has a pass of its own deque, which gives names first in, first out. It is not the
-- owner's.
abbrev pub IsWired : End → Type 0
IsWired e = IsPassOf (stealer_deque e.thief) e.pass × (stealer_flavor e.thief ≡ 0)
    × ((note_of e).whole ≡ 0)

-- Among the ends of a hand the one of its own deque is spare, and each other has one part.
abbrev pub IsPlaced : ℕ → ℕ → End → Type 0
IsPlaced number k e =
    IsWired e × (k ≡ number → ((note_of e).parts ≡ 0) × ((note_of e).taken ≡ []))
    × (k ≢ number → (note_of e).parts ≡ 1)

-- What the names weigh that were taken at these ends.
abbrev pub ends_weight : (Name → ℕ) → List End → ℕ
ends_weight weight ends = sum_by (λ (e : End). sum_by weight (note_of e).taken) ends

-- The room of a deque at the start.
abbrev pub first_room : ℕ
first_room = 64

-- The owner of a deque, first in, first out, with one part of `hands`. From it names come back only
-- after the first room.
pub record OwnsPart {P : Type 0} (hands : ℕ) (own : Worker Name Global Note P) : Type 0 where
  pub first_out : worker_flavor own ≡ 0
  pub part : (worker_view own).parts ≡ 1
  pub whole : (worker_view own).whole ≡ hands
  pub pushed : worker_index own ≤ length (worker_view own).put
  pub room : first_room ≤ worker_capacity own

-- A hand has one end of each deque, and its own deque. The names that it noted are those that its
-- passes took.
pub record IsWell {P : Type 0} (number : ℕ) (own : Worker Name Global Note P) (ends : List End)
    (names : List Name) : Type 0 where
  pub inside : number < length ends
  pub few : length ends ≤ 64
  pub owns : OwnsPart (length ends) own
  pub at_home : slice_get (map deque_of ends) number ≡ Some (worker_deque own)
  pub placed : (k : ℕ) (e : End) → slice_get ends k ≡ Some e → IsPlaced number k e
  pub weighed : (weight : Name → ℕ)
      → sum_by weight names ≡ sum_by weight (worker_view own).taken + ends_weight weight ends
