-- What each step on the slots tells the seat that makes it: of the step, the seat before, the
-- number found and the seat after (this project's profile).
use Rattle.std.specs.Prelude.{◌≡◌, ℕ, ◌+◌, ◌∷◌, ◌==◌, true, false, MatchBool, [], length}
use Rattle.std.specs.Prelude.{slice_index, slice_set, replicate, Option, Some, None}
use Rattle.atomic_table.specs.Table.{Me, Step, rest}
use Rattle.board.specs.Locks.Share.{nothing, half, both, IsWhole}
use Rattle.board.specs.Locks.TurnView.{TurnView as View}
use Rattle.board.specs.Locks.Words.{turn_word}

-- A seat that won the turn of slot i, whose value is out; that lost a try of it.
abbrev pub with_turn : View → ℕ → View
with_turn v i = record v { holds = slice_set v.holds i true; out = Some i }

abbrev pub with_try : View → ℕ → View
with_try v i = record v { lost = slice_set v.lost i (slice_index v.lost i + 1) }

-- A try of a turn that found 0 takes the slot with its value, which fits. One that found the turn
-- taken counts a lost try, and the seat is not the only one.
abbrev pub Tries : {V : Type 0} → (ℕ → V → Type 0)
    → Step (Option V) → Me (Option V) View → ℕ → Me (Option V) View → Type 0
Tries {V} fits st m r n = (i : ℕ) → st.word ≡ turn_word i → MatchBool (r == 0)
    ((v : V) × fits i v × (n ≡ (with_turn m.0 i, (i, Some v) ∷ m.1)))
    ((¬ IsWhole m.0.share) × (n ≡ (with_try m.0 i, m.1)))

module _ {V : Type 0} (st : Step (Option V)) (m : Me (Option V) View) (r : ℕ)
    (n : Me (Option V) View) where
  -- The slot lies at home again.
  abbrev pub Leaves : Type 0
  Leaves = n ≡ (record m.0 { out = None }, rest m.1)

  -- The empty slot is out again.
  abbrev pub Reaches : Type 0
  Reaches = (i : ℕ) → st.word ≡ turn_word i → n ≡ (record m.0 { out = Some i }, (i, None) ∷ m.1)

  -- The slot lies at home, and the seat does not hold it any more.
  abbrev pub Returns : Type 0
  Returns = (i : ℕ) → st.word ≡ turn_word i
      → n ≡ (record m.0 { holds = slice_set m.0.holds i false; out = None }, rest m.1)

-- A split halves the share, and the new seat has lost no try and holds nothing.
abbrev pub with_half : View → View
with_half v = record v { share = half v.share }

abbrev pub newcomer : View → View
newcomer v = record {
  share = half v.share;
  lost = replicate (length v.lost) 0;
  holds = replicate (length v.holds) false;
  out = None;
}

-- A join adds the other share, and the other seat is spent.
abbrev pub with_both : View → View → View
with_both v w = record v { share = both v.share w.share }

abbrev pub spent_view : View
spent_view = record { share = nothing; lost = []; holds = []; out = None }
