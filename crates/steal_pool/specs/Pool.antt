-- What contracts see of a pool, of its hands that are still to be given out, and of one hand.
use Rattle.std.specs.Prelude.{◌≡◌, ℕ, ◌+◌, List, [], ◌∷◌, ◌++◌, length, slice_get, Some}
use Rattle.std.specs.declared.alloc.Global.{Global}
use Rattle.core_state.specs.declared.answer.Name.{Name}

-- Which deque it is.
abbrev pub DequeId : Type 0
DequeId = (ℕ × ℕ) × Global

-- A pool: its deques, one for each worker.
pub record PoolValue : Type 0 where
  pub deques : List DequeId

-- The hands of a pool with these deques that are still to be given out: the numbers from `given`
-- on.
pub record HandsValue : Type 0 where
  pub deques : List DequeId
  pub given : ℕ

-- A hand of a pool with these deques, and the number of its own deque.
-- It notes the names that it has put and taken, in order, and for each deque how often it found no
-- name there and how often another taker was faster.
pub record HandValue : Type 0 where
  pub deques : List DequeId
  pub number : ℕ
  pub put : List Name
  pub taken : List Name
  pub empties : List ℕ
  pub beaten : List ℕ

-- A pool has one deque and one hand for each worker.
abbrev pub workers_of : PoolValue → ℕ
workers_of pool = length pool.deques

-- The hand belongs to the pool.
abbrev pub IsHandOf : PoolValue → HandValue → Type 0
IsHandOf pool hand = hand.deques ≡ pool.deques

-- The hand is the only one of its pool.
abbrev pub IsOnly : HandValue → Type 0
IsOnly hand = length hand.deques ≡ 1

-- It is the same hand at two moments.
abbrev pub IsSameHand : HandValue → HandValue → Type 0
IsSameHand old new = (new.deques ≡ old.deques) × (new.number ≡ old.number)

-- A hand that was not used yet.
abbrev pub IsFresh : PoolValue → ℕ → HandValue → Type 0
IsFresh pool number hand = IsHandOf pool hand × (hand.number ≡ number) × (hand.put ≡ [])
    × (hand.taken ≡ [])

-- Such hands, numbered from `number` on up to the last of the pool.
abbrev pub AreFresh : PoolValue → ℕ → List HandValue → Type 0
AreFresh pool number [] = number ≡ workers_of pool
AreFresh pool number (hand ∷ hands) = IsFresh pool number hand × AreFresh pool (number + 1) hands

-- All hands of the pool, by their numbers.
abbrev pub AreAllHands : PoolValue → List HandValue → Type 0
AreAllHands pool hands =
    (length hands ≡ workers_of pool)
    × ((k : ℕ) (hand : HandValue) → slice_get hands k ≡ Some hand → IsHandOf pool hand
    × (hand.number ≡ k))

-- What is left of the names of these hands: of each hand the names that it put last, in their
-- order, the last hand's first.
abbrev pub IsLeftInOrder : List HandValue → List Name → Type 0
IsLeftInOrder [] left = left ≡ []
IsLeftInOrder (hand ∷ hands) left =
    (before : List Name) × (gone : List Name) × (rest : List Name)
    × IsLeftInOrder hands before × (left ≡ before ++ rest) × (hand.put ≡ gone ++ rest)
