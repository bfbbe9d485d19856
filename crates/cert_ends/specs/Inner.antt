-- What the steps of the deciders find, one address at a time.
use Rattle.std.specs.Prelude.{ℕ, List, Contains, Option, Some, None}
use Rattle.cfg_model.specs.Program.Instructions.{InstructionMap}
use Rattle.cfg_model.specs.Program.Chain.{IsTerminatorOf}
use Rattle.cert_text.specs.declared.lines.ReturnLine.{ReturnLine}
use Rattle.cert_text.specs.declared.lines.ReturnWhy.{ReturnWhy}
use Rattle.cert_text.specs.declared.lines.LeadLine.{LeadLine}
use Rattle.cert_laws.specs.Lines.{IsReturn, IsReturnBelow}
use Rattle.cert_laws.specs.Ways.{ReturnsBy}

-- One of these lines says that the terminator at k returns, with a rank below this one, if one is
-- given.
abbrev pub IsReturnUnder : List ReturnLine → Option ℕ → ℕ → Type 0
IsReturnUnder returns None k = IsReturn returns k
IsReturnUnder returns (Some rank) k = IsReturnBelow returns rank k

-- k ends the chain of one of these leaders.
abbrev pub EndsOne : InstructionMap → List LeadLine → ℕ → Type 0
EndsOne map leads k = (line : LeadLine) × Contains leads line × IsTerminatorOf map line.at k

-- The instruction at k is listed if there is a reason that it returns.
abbrev pub ReturnIsListed : InstructionMap → List ReturnLine → ℕ → Type 0
ReturnIsListed map returns k =
    (why : ReturnWhy) → ReturnsBy map (IsReturn returns) k why → IsReturn returns k
