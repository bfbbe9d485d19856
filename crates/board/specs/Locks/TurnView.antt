-- What the rule of turns knows of one seat (this project's profile).
use Rattle.std.specs.Prelude.{ℕ, Bool, List, Option}
use Rattle.board.specs.Locks.Share.{Share}

-- Its part of the whole; for each slot, how often a try of this seat found the turn taken; for each
-- slot, whether this seat has its turn; and the slot that is not at home, between two steps of one
-- call.
pub record TurnView : Type 0 where
  pub share : Share
  pub lost : List ℕ
  pub holds : List Bool
  pub out : Option ℕ
