-- Workers side by side: what they are given, and what they give back.
use Rattle.std.specs.Prelude.{◌≡◌, ℕ, ◌+◌, ◌≤◌, List, All, length, map, Some, slice_get}
use Rattle.cfg_model.specs.Program.Instructions.{InstructionMap}
use Rattle.cfg_model.specs.Program.Reach.{AreSeeds}
use Rattle.board.specs.Locks.Share.{IsSame}
use Rattle.board.specs.Slots.{BoardId}
use Rattle.board.specs.Seat.{SeatState, HoldsNothing}
use Rattle.steal_pool.specs.Pool.{PoolValue, HandValue, DequeId, IsHandOf}

-- What a worker relies on in what all share: the program and its seeds are those of the job.
pub record IsJob (map : InstructionMap) (seeds : List ℕ) (told : InstructionMap)
    (given : List ℕ) : Type 0 where
  pub code : told ≡ map
  pub job : given ≡ seeds
  pub are_seeds : AreSeeds map seeds

-- The seat is of this board and holds nothing.
pub record IsFree (id : BoardId) (seat : SeatState) : Type 0 where
  pub board : seat.board ≡ id
  pub nothing : HoldsNothing seat

-- The hands belong to the pool. Their count and the first number together are at most 64.
pub record AreOf (pool : PoolValue) (first : ℕ) (hands : List HandValue) : Type 0 where
  pub few : first + length hands ≤ 64
  pub own : All (IsHandOf pool) hands

-- The seat has the share of the one that was given, is of the same board, and holds nothing.
pub record IsBack (given back : SeatState) : Type 0 where
  pub board : back.board ≡ given.board
  pub share : IsSame back.share given.share
  pub nothing : HoldsNothing back

-- Which hand it is.
abbrev pub which : HandValue → List DequeId × ℕ
which hand = (hand.deques, hand.number)

-- The same hands, in the same order.
abbrev pub AreBack : List HandValue → List HandValue → Type 0
AreBack given back = map which back ≡ map which given

-- These are the first hands of the pool, by their numbers.
abbrev pub AreFirst : PoolValue → List HandValue → Type 0
AreFirst pool hands =
    (k : ℕ) (hand : HandValue) → slice_get hands k ≡ Some hand → IsHandOf pool hand
    × (hand.number ≡ k)
