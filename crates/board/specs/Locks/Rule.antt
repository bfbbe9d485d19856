-- The rule of slots with a turn each: what holds between any two steps, of the words, of the values
-- at home and of what each seat knows (this project's profile).
use Rattle.std.specs.Prelude.{◌≡◌, ◌≢◌, ℕ, ◌+◌, ◌*◌, ◌<◌, false, IsTrue, List, map, length}
use Rattle.std.specs.Prelude.{slice_index, slice_index_or, Option, Some, None}
use mathlib.Core.Option.{some}
use lib.ListN.{get_elem?}
use Rattle.atomic_table.specs.Table.{State}
use Rattle.board.specs.Locks.Share.{AddUpToOne, IsSpent}
use Rattle.board.specs.Locks.TurnView.{TurnView as View}
use Rattle.board.specs.Locks.Words.{turn_word}

-- The seat with this view holds slot i.
abbrev pub HasTurn : View → ℕ → Type 0
HasTurn v i = IsTrue (slice_index_or v.holds i false)

-- Slot i is held by no seat; by one seat and no other.
abbrev pub IsFree : List View → ℕ → Type 0
IsFree views i = (id : ℕ) (v : View) → get_elem? views id ≡ some v → ¬ HasTurn v i

pub record HasOneHolder (views : List View) (i : ℕ) : Type 0 where
  pub id : ℕ
  pub view : View
  pub there : get_elem? views id ≡ some view
  pub holds : HasTurn view i
  pub alone : (other : ℕ) (v : View) → get_elem? views other ≡ some v → other ≢ id → ¬ HasTurn v i

module _ {V : Type 0} (fits : ℕ → V → Type 0) (slots : ℕ) (s : State (Option V) View) where
  -- Each slot has a turn word. If it is 0, the slot's value lies at home and fits, and no seat
  -- holds the slot. Otherwise the turn is taken, and one seat holds the slot. A slot that is held
  -- is empty if it lies at home. The shares of all seats add up to one, and a spent seat holds
  -- nothing.
  pub record IsKept : Type 0 where
    pub words : length s.words ≡ 8 * slots + 1
    pub value : (i : ℕ) → i < slots → slice_index s.words (turn_word i) ≡ 0
        → (v : V) × (get_elem? s.homes i ≡ some (some (Some v))) × fits i v
    pub free : (i : ℕ) → i < slots → slice_index s.words (turn_word i) ≡ 0 → IsFree s.views i
    pub taken : (i : ℕ) → i < slots → slice_index s.words (turn_word i) ≢ 0 → HasOneHolder s.views i
    pub empty : (i id : ℕ) (v : View) → i < slots → get_elem? s.views id ≡ some v → HasTurn v i
        → v.out ≢ Some i → get_elem? s.homes i ≡ some (some None)
    pub shares : AddUpToOne (map (λ v. v.share) s.views)
    pub spent : (i id : ℕ) (v : View) → get_elem? s.views id ≡ some v → IsSpent v.share
        → ¬ HasTurn v i
