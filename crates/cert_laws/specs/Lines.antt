-- What the lines of a certificate list.
use Rattle.std.specs.Prelude.{◌≡◌, ℕ, ◌<◌, List, Contains}
use Rattle.cert_text.specs.declared.lines.ReturnLine.{ReturnLine}
use Rattle.cert_text.specs.declared.lines.LeadLine.{LeadLine}

-- One of these lines says that a is a leader.
pub record IsLead (leads : List LeadLine) (a : ℕ) : Type 0 where
  pub line : LeadLine
  pub listed : Contains leads line
  pub address : line.at ≡ a

-- One of lower rank than this does.
pub record IsLeadBelow (leads : List LeadLine) (rank a : ℕ) : Type 0 where
  pub line : LeadLine
  pub listed : Contains leads line
  pub address : line.at ≡ a
  pub lower : line.rank < rank

-- One of these lines says that the terminator at k returns.
pub record IsReturn (returns : List ReturnLine) (k : ℕ) : Type 0 where
  pub line : ReturnLine
  pub listed : Contains returns line
  pub address : line.at ≡ k

-- One of lower rank than this does.
pub record IsReturnBelow (returns : List ReturnLine) (rank k : ℕ) : Type 0 where
  pub line : ReturnLine
  pub listed : Contains returns line
  pub address : line.at ≡ k
  pub lower : line.rank < rank
