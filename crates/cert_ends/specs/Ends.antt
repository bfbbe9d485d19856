-- The ends of the listed leaders, and what a part says of them.
use Rattle.std.specs.Prelude.{◌↔◌, ℕ, List, All, Contains}
use Rattle.std.specs.List.Sorted.{IsStrictlyIncreasing}
use Rattle.cfg_model.specs.Program.Instructions.{InstructionMap}
use Rattle.cert_text.specs.declared.lines.LeadLine.{LeadLine}
use Rattle.cert_text.specs.declared.certificate.Part.{Part}
use Rattle.cert_laws.specs.Lines.{IsReturnBelow}
use Rattle.cert_laws.specs.Ways.{ReturnsBy}
use Rattle.cert_laws.specs.Valid.{IsListedEnd}

-- The terminators of the chains of the listed leaders, rising, each once.
pub record AreEnds (map : InstructionMap) (leads : List LeadLine) (ends : List ℕ) : Type 0 where
  pub rising : IsStrictlyIncreasing ends
  pub exact : (k : ℕ) → Contains ends k ↔ IsListedEnd map leads k

-- Each listed return ends the chain of a listed leader.
abbrev pub ReturnsEnd : InstructionMap → Part → Type 0
ReturnsEnd map part = All (λ line. IsListedEnd map part.leads line.at) part.returns

-- Each listed return has its reason, by returns of lower rank.
abbrev pub ReturnsHaveReasons : InstructionMap → Part → Type 0
ReturnsHaveReasons map part =
    All (λ line. ReturnsBy map (IsReturnBelow part.returns line.rank) line.at line.why) part.returns
