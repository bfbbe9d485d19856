-- Return status: from which addresses the function at hand may return.
use Rattle.std.specs.Prelude.{ℕ, Some}
use Rattle.cfg_model.specs.Program.Instructions.{InstructionMap}
use Rattle.cfg_model.specs.Program.Successors.{IsSuccessor, IsCall, ReturnsByItself}

-- The returning addresses, the least set with three rules (Meng et al., return status of
-- functions): an instruction that returns by itself, one with a returning successor, and a call
-- whose target and fall both return. That unresolved and cut-off ways return is this project's
-- profile.
pub data Returns (map : InstructionMap) : ℕ → Type 0 where
  by_itself : {a : ℕ} → ReturnsByItself map a → Returns map a
  onward : {a b : ℕ} → IsSuccessor map a b → Returns map b → Returns map a
  past_call : {a target fall : ℕ} → IsCall map a target (Some fall) → Returns map target
      → Returns map fall → Returns map a
