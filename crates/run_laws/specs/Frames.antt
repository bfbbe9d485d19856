-- Calls that have not come back.
use Rattle.std.specs.Prelude.{ℕ, List, [], ◌∷◌, Option, Some, None}
use Rattle.cfg_model.specs.declared.flow.Flow.{Flow}
use Rattle.cfg_model.specs.declared.flow.Flow.TheVariants.{Call, IndirectCall}

-- A frame: a call that has not come back, by its address and the address that it went to.
pub record Frame : Type 0 where
  pub call : ℕ
  pub entry : ℕ

abbrev pub frame_of : ℕ → ℕ → Frame
frame_of call entry = record { call = call; entry = entry }

-- The entry of the function that runs: where the last call that has not come back went, or, if there
-- is none, where the run began. A tail call runs in the place of the function that makes it.
abbrev pub running : ℕ → List Frame → ℕ
running begin [] = begin
running begin (frame ∷ frames) = frame.entry

-- Where a call of this flow returns to: the address after it, if it may come back to code.
abbrev pub return_address : Option Flow → Option ℕ
return_address (Some (Call target fall)) = fall
return_address (Some (IndirectCall fall)) = fall
return_address _ = None
