-- How a hand takes names.
use Rattle.std.specs.Prelude.{◌≡◌, ℕ, ◌≤◌, List, [], ◌∷◌, ◌++◌, length, slice_get, slice_index}
use Rattle.std.specs.Prelude.{Option, Some, None, MatchOption}
use Rattle.core_state.specs.declared.answer.Name.{Name}
use Rattle.steal_pool.specs.declared.deques.Tried.{Tried}
use Rattle.steal_pool.specs.declared.deques.Round.{Round}
use Rattle.steal_pool.specs.declared.deques.Round.TheVariants as round
use Rattle.steal_pool.specs.Tries.{MatchTried, IsRound}
use Rattle.steal_pool.specs.Rose.{Rose}
use Rattle.steal_pool.specs.Pool.{HandValue, IsOnly, IsSameHand, workers_of}

-- How often the hand found no name at deque number i, and how often another taker was faster there.
abbrev pub empties_at : HandValue → ℕ → ℕ
empties_at hand i = slice_index hand.empties i

abbrev pub beaten_at : HandValue → ℕ → ℕ
beaten_at hand i = slice_index hand.beaten i

-- Neither number falls at any deque.
abbrev pub CountsLast : HandValue → HandValue → Type 0
CountsLast old new = (i : ℕ) → (empties_at old i ≤ empties_at new i)
    × (beaten_at old i ≤ beaten_at new i)

-- One try of a hand: a name that it gets is the last one taken, and nothing else is noted as put or
-- taken. The only hand of a pool gets the names in the order in which it put them, and finds none
-- only if all are taken.
abbrev pub TryOfHand : HandValue → ℕ → Tried → HandValue → Type 0
TryOfHand old i tried new =
    IsSameHand old new × (new.put ≡ old.put)
    × MatchTried tried
    (λ name. (new.taken ≡ old.taken ++ name ∷ [])
    × (IsOnly old → slice_get old.put (length old.taken) ≡ Some name))
    (new.taken ≡ old.taken)
    ((new.taken ≡ old.taken) × (IsOnly old → length old.taken ≡ length old.put))

-- What a try counts.
abbrev pub CountsTry : HandValue → ℕ → Tried → HandValue → Type 0
CountsTry old i tried new =
    CountsLast old new
    × MatchTried tried (λ _. Unit {0}) (Rose (beaten_at old i) (beaten_at new i))
    (Rose (empties_at old i) (empties_at new i))

-- The last round of a take: it begins with what the hand had noted, at the hand's own deque, and
-- gives the answer.
abbrev pub LastRound : HandValue → Option Name → HandValue → Type 0
LastRound old answer new =
    (before : HandValue) × IsSameHand old before × (before.put ≡ old.put)
    × (before.taken ≡ old.taken)
    × MatchOption answer
    (IsRound TryOfHand old.number (length old.deques) before round.Dry new)
    (λ name. IsRound TryOfHand old.number (length old.deques) before (round.Got name) new)
