-- Tries at deques, and rounds of them.
use Rattle.std.specs.Prelude.{ℕ, ◌+◌, ◌%◌, ◌<◌, Bool, true, false}
use Rattle.core_state.specs.declared.answer.Name.{Name}
use Rattle.steal_pool.specs.declared.deques.Tried.{Tried}
use Rattle.steal_pool.specs.declared.deques.Tried.TheVariants as tried
use Rattle.steal_pool.specs.declared.deques.Round.{Round}
use Rattle.steal_pool.specs.declared.deques.Round.TheVariants as round

-- One fact for each answer of a try.
abbrev pub MatchTried : Tried → (Name → Type 0) → Type 0 → Type 0 → Type 0
MatchTried (tried.Got name) got beaten empty = got name
MatchTried tried.Beaten got beaten empty = beaten
MatchTried tried.Empty got beaten empty = empty

-- One fact for each answer of a round.
abbrev pub MatchRound : Round → (Name → Type 0) → Type 0 → Type 0 → Type 0
MatchRound (round.Got name) got again dry = got name
MatchRound round.Again got again dry = again
MatchRound round.Dry got again dry = dry

module _ {E : Type 0} (try_made : E → ℕ → Tried → E → Type 0) (own count : ℕ) (old : E) where
  -- Some tries that got no name, each once, at number `own` and the deques that follow it, where
  -- the first follows the last. They are counted, and the answer says whether another taker was
  -- faster in one of them.
  pub data Misses : ℕ → Bool → E → Type 0 where
    no_try : Misses 0 false old
    one_empty : (n : ℕ) (lost : Bool) (mid now : E) → Misses n lost mid
        → try_made mid ((own + n) % count) tried.Empty now → Misses (n + 1) lost now
    one_beaten : (n : ℕ) (lost : Bool) (mid now : E) → Misses n lost mid
        → try_made mid ((own + n) % count) tried.Beaten now → Misses (n + 1) true now

  -- A round: misses, and then a name; or nothing but misses, one at each deque.
  abbrev pub IsRound : Round → E → Type 0
  IsRound answer new =
      MatchRound answer
      (λ name. (n : ℕ) × (lost : Bool) × (mid : E) × (n < count) × Misses n lost mid
      × try_made mid ((own + n) % count) (tried.Got name) new)
      (Misses count true new)
      (Misses count false new)
