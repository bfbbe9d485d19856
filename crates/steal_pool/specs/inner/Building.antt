-- A pool while its hands are made, and while they are gathered.
use Rattle.std.specs.Prelude.{◌≡◌, ℕ, ◌+◌, ◌<◌, ◌≤◌, List, [], ◌∷◌, ◌++◌, map, length, slice_get}
use Rattle.std.specs.Prelude.{Some}
use Rattle.std.specs.declared.alloc.Global.{Global}
use Rattle.core_state.specs.declared.answer.Name.{Name}
use Rattle.crossbeam_deque.specs.declared.handles.Worker.{Worker}
use Rattle.crossbeam_deque.specs.Handles.{worker_deque, worker_flavor, worker_view, worker_index}
use Rattle.crossbeam_deque.specs.Handles.{worker_capacity}
use Rattle.steal_pool.specs.declared.note.Note.{Note}
use Rattle.steal_pool.specs.declared.end.End.{End}
use Rattle.steal_pool.specs.declared.end.Row.{Row}
use Rattle.steal_pool.specs.Pool.{DequeId, HandValue}
use Rattle.steal_pool.specs.Often.{EachAsOften}
use Rattle.steal_pool.specs.Rule.{note}
use Rattle.steal_pool.specs.inner.Ends.{deque_of, note_of, first_room, IsWired, IsPlaced, IsWell}

-- All parts of a deque, as its owner knows them.
abbrev pub whole_of : {P : Type 0} → Worker Name Global Note P → ℕ
whole_of own = (worker_view own).whole

-- The owner of a deque that no name was put into.
pub record IsNew {P : Type 0} (own : Worker Name Global Note P) : Type 0 where
  pub first_out : worker_flavor own ≡ 0
  pub notes : worker_view own ≡ note 1 (whole_of own) [] []
  pub some : 0 < whole_of own
  pub pushed : worker_index own ≡ 0
  pub room : first_room ≤ worker_capacity own

-- Owners of new deques, each with a part for itself and for each of the first `given` hands that is
-- another's.
abbrev pub AreOwners : {P : Type 0} → ℕ → List (Worker Name Global Note P) → Type 0
AreOwners {P} given owners =
    (k : ℕ) (own : Worker Name Global Note P) → slice_get owners k ≡ Some own
    → IsNew own × (k < given → whole_of own ≡ given) × (given ≤ k → whole_of own ≡ given + 1)

-- The ends of the hand with this number, of these deques: no name was taken there.
abbrev pub AreEnds : ℕ → List DequeId → List End → Type 0
AreEnds number deques ends =
    (map deque_of ends ≡ deques)
    × ((k : ℕ) (e : End) → slice_get ends k ≡ Some e → IsPlaced number k e
    × ((note_of e).taken ≡ []))

-- The ends of the first hands.
abbrev pub AreRows : List DequeId → List Row → Type 0
AreRows deques rows = (number : ℕ) (row : Row) → slice_get rows number ≡ Some row
    → AreEnds number deques row.ends.items

-- What a hand was: its own deque, and its ends.
abbrev pub IsApart : {P : Type 0} → HandValue → Worker Name Global Note P → List End → Type 0
IsApart hand own ends = IsWell hand.number own ends hand.taken × (map deque_of ends ≡ hand.deques)
    × ((worker_view own).put ≡ hand.put)

-- What all hands were, in order.
abbrev pub AreApart : {P : Type 0} → List HandValue → List (Worker Name Global Note P) → List Row
    → Type 0
AreApart {P} hands owners rows =
    (length owners ≡ length hands) × (length rows ≡ length hands)
    × ((k : ℕ) (hand : HandValue) (own : Worker Name Global Note P) (row : Row)
    → slice_get hands k ≡ Some hand → slice_get owners k ≡ Some own
    → slice_get rows k ≡ Some row
    → IsApart hand own row.ends.items)

-- The owner took in the pass of this end.
abbrev pub IsJoined : {P : Type 0} → Worker Name Global Note P → End → Worker Name Global Note P
    → Type 0
IsJoined old e new =
    (worker_deque new ≡ worker_deque old) × (worker_flavor new ≡ worker_flavor old)
    × (worker_view new ≡ note ((worker_view old).parts + (note_of e).parts) (whole_of old)
    (worker_view old).put ((worker_view old).taken ++ (note_of e).taken))

-- The owners from number `from` on took in the passes of their ends, and the others did not yet.
abbrev pub AreJoined : {P : Type 0} → ℕ → List (Worker Name Global Note P) → List End
    → List (Worker Name Global Note P) → Type 0
AreJoined {P} from old ends new =
    (length new ≡ length old)
    × ((k : ℕ) (own : Worker Name Global Note P) → slice_get new k ≡ Some own
    → (k < from → slice_get old k ≡ Some own)
    × (from ≤ k → (before : Worker Name Global Note P) × (e : End) × (slice_get old k ≡ Some before)
    × (slice_get ends k ≡ Some e) × IsJoined before e own))

-- The names left in a deque, whose owner has noted v, go after those that were left before.
abbrev pub IsDrained : Note → List Name → List Name → Type 0
IsDrained v before after =
    (gone : List Name) × (rest : List Name) × (after ≡ before ++ rest) × (v.put ≡ gone ++ rest)
    × EachAsOften gone v.taken

-- The names left in all these deques, the last deque's first.
abbrev pub AreDrained : {P : Type 0} → List (Worker Name Global Note P) → List Name → Type 0
AreDrained [] left = left ≡ []
AreDrained (own ∷ owners) left = (before : List Name) × AreDrained owners before
    × IsDrained (worker_view own) before left

-- P holds of each element.
abbrev pub Each : {X : Type 0} → (X → Type 0) → List X → Type 0
Each {X} P xs = (k : ℕ) (x : X) → slice_get xs k ≡ Some x → P x
