-- The facts of a valid part, as they are decided.
use Rattle.std.specs.Prelude.{ℕ, List, All}
use Rattle.cfg_model.specs.Program.Instructions.{InstructionMap}
use Rattle.cert_text.specs.declared.certificate.Part.{Part}
use Rattle.cert_text.specs.Text.{PartRises}
use Rattle.cert_laws.specs.Lines.{IsLead}
use Rattle.cert_laws.specs.Valid.{AreInCode, BlocksAreApart, LeadsAreClosed, LeadsBy, ReturnsAreClosed}
use Rattle.cert_ends.specs.Ends.{ReturnsEnd, ReturnsHaveReasons}

-- The lists rise, each line is of an instruction, and each seed is a leader.
pub record AreFormed (map : InstructionMap) (seeds : List ℕ) (part : Part) : Type 0 where
  pub rising : PartRises part
  pub in_code : AreInCode map part
  pub seeds_lead : All (IsLead part.leads) seeds

-- The part is right about which ends of its leaders' chains return.
pub record EndsAreRight (map : InstructionMap) (part : Part) : Type 0 where
  pub returns_end : ReturnsEnd map part
  pub returns : ReturnsHaveReasons map part
  pub returns_closed : ReturnsAreClosed map part

-- The reason of each leader holds.
abbrev pub HaveReasons : InstructionMap → List ℕ → Part → Type 0
HaveReasons map seeds part =
    All (λ line. LeadsBy map seeds part line.rank line.at line.why) part.leads

-- No leader is missing, and the reason of each holds.
pub record LeadsAreRight (map : InstructionMap) (seeds : List ℕ) (part : Part) : Type 0 where
  pub closed : LeadsAreClosed map part
  pub reasons : HaveReasons map seeds part

-- Besides, the blocks share no address.
pub record LeadersAreRight (map : InstructionMap) (seeds : List ℕ) (part : Part) : Type 0 where
  pub apart : BlocksAreApart map part.leads
  pub leads : LeadsAreRight map seeds part
