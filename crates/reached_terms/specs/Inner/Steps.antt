-- How the marks change.
use Rattle.std.specs.Prelude.{◌≡◌, ℕ, ◌+◌, ◌<◌, ◌≤◌, true, if◌then◌else◌}
use Rattle.std.specs.Prelude.{List, [], ◌∷◌, ◌++◌, length, get_or, set, Contains, Option}
use Rattle.cfg_model.specs.Program.Instructions.{InstructionMap}
use Rattle.cfg_model.specs.Program.Chain.{IsTerminatorOf}
use Rattle.reached_terms.specs.declared.marks.Way.{Way}
use Rattle.reached_terms.specs.declared.marks.Marks.{Marks}
use Rattle.reached_terms.specs.Inner.Marks.{IsOn, count_off, AreKept, AreRight, AreTold}

-- How many more may have to be told.
abbrev pub left_to_tell : Marks → ℕ
left_to_tell m = count_off m.returns.items + length m.untold.items

-- How many may have to be visited: those that were found, and those that are not reached.
abbrev pub left_to_visit : Marks → ℕ
left_to_visit m = count_off m.reached.items + length m.order.items

-- What was marked, linked and listed stays. Each that is marked as reached since is listed once.
pub record Grow (old new : Marks) : Type 0 where
  pub size : length new.reached.items ≡ length old.reached.items
  pub reached : (n : ℕ) → IsOn old.reached.items n → IsOn new.reached.items n
  pub returns : (n : ℕ) → IsOn old.returns.items n → IsOn new.returns.items n
  pub ways : (way : Way) → Contains old.ways.items way → Contains new.ways.items way
  pub more_ways : length old.ways.items ≤ length new.ways.items
  pub same_ways : (i : ℕ) (d : Way) → i < length old.ways.items
      → get_or new.ways.items i d ≡ get_or old.ways.items i d
  pub more : length old.order.items ≤ length new.order.items
  pub same : (i d : ℕ) → i < length old.order.items
      → get_or new.order.items i d ≡ get_or old.order.items i d
  pub sent : (n : ℕ) → IsOn old.sent.items n → IsOn new.sent.items n
  pub counted : left_to_visit new ≡ left_to_visit old

-- A change of the marks that keeps what holds of them. They stay right if what is given is so.
pub record Step (map : InstructionMap) (number : ℕ → ℕ) (Given : List ℕ → Type 0)
    (old new : Marks) : Type 0 where
  pub kept : AreKept map number new
  pub grow : Grow old new
  pub right : (seeds : List ℕ) → AreRight map number seeds old → Given seeds
      → AreRight map number seeds new
  pub told : (n at : ℕ) → AreTold map number old n at → AreTold map number new n at
  pub left : left_to_tell new ≤ left_to_tell old

-- The mark of n as one that returns is set, and n is still to be told of, unless it was set.
pub record IsMarked (n : ℕ) (old new : Marks) : Type 0 where
  pub reached : new.reached ≡ old.reached
  pub waiting : new.waiting ≡ old.waiting
  pub order : new.order ≡ old.order
  pub ways : new.ways ≡ old.ways
  pub sent : new.sent ≡ old.sent
  pub returns : new.returns.items ≡ set old.returns.items n true
  pub untold : new.untold.items
      ≡ (if get_or old.returns.items n true then old.untold.items else old.untold.items ++ n ∷ [])

-- One more way is linked to its end.
pub record IsLinked (from to : ℕ) (fall : Option ℕ) (old new : Marks) : Type 0 where
  pub reached : new.reached ≡ old.reached
  pub returns : new.returns ≡ old.returns
  pub order : new.order ≡ old.order
  pub untold : new.untold ≡ old.untold
  pub sent : new.sent ≡ old.sent
  pub before : ℕ
  pub is_before : (d : ℕ) → to < length old.waiting.items → before ≡ get_or old.waiting.items to d
  pub ways : new.ways.items
      ≡ old.ways.items ++ record { from = from; to = to; fall = fall; before = before } ∷ []
  pub waiting : new.waiting.items ≡ set old.waiting.items to (length old.ways.items + 1)

-- The terminator of a is marked as reached, and n is its number.
pub record IsArrived (map : InstructionMap) (number : ℕ → ℕ) (m : Marks) (a n : ℕ) : Type 0 where
  pub end : ℕ
  pub ends : IsTerminatorOf map a end
  pub is : n ≡ number end
  pub reached : IsOn m.reached.items n
