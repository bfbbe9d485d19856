-- A valid part of a certificate: each line has a reason by lines of lower rank, and no line is
-- missing (this project's profile).
use Rattle.std.specs.Prelude.{◌≡◌, ℕ, List, All, Contains, Some, IsSome}
use Rattle.cfg_model.specs.Program.Instructions.{InstructionMap, length_at}
use Rattle.cfg_model.specs.Program.Chain.{GoesOnTo, OnChain, IsTerminatorOf}
use Rattle.cfg_model.specs.Graph.Block.{RunsTo}
use Rattle.cert_text.specs.declared.lines.ReturnWhy.{ReturnWhy}
use Rattle.cert_text.specs.declared.lines.LeadLine.{LeadLine}
use Rattle.cert_text.specs.declared.lines.LeadWhy.{LeadWhy}
use Rattle.cert_text.specs.declared.lines.LeadWhy.TheVariants.{Seed, From, Join}
use Rattle.cert_text.specs.declared.certificate.Part.{Part}
use Rattle.cert_text.specs.Text.{PartRises}
use Rattle.cert_laws.specs.Lines.{IsLead, IsLeadBelow, IsReturn, IsReturnBelow}
use Rattle.cert_laws.specs.Ways.{EndsIn, LeadsOn, ReturnsBy}

-- On the chain of this leader stands a straight instruction of so many bytes, right before a.
pub record GoesOnFrom (map : InstructionMap) (bytes lead a : ℕ) : Type 0 where
  pub before : ℕ
  pub on_chain : OnChain map lead before
  pub onward : GoesOnTo map before a
  pub size : length_at map before ≡ Some bytes

-- A leader of lower rank ends in a terminator that leads to a.
pub record ComesFrom (map : InstructionMap) (part : Part) (rank lead a : ℕ) : Type 0 where
  pub lower : IsLeadBelow part.leads rank lead
  pub leads : EndsIn map (λ k. LeadsOn map (IsReturn part.returns) k a) lead

-- Two streams join at a, one by an instruction of two bytes and one by an instruction of four, on
-- the chains of leaders of lower rank.
pub record JoinsAt (map : InstructionMap) (part : Part) (rank first second a : ℕ) : Type 0 where
  pub first_lower : IsLeadBelow part.leads rank first
  pub second_lower : IsLeadBelow part.leads rank second
  pub short : GoesOnFrom map 2 first a
  pub long : GoesOnFrom map 4 second a

-- This reason holds of a leader a of this rank.
abbrev pub LeadsBy : InstructionMap → List ℕ → Part → ℕ → ℕ → LeadWhy → Type 0
LeadsBy map seeds part rank a Seed = Contains seeds a
LeadsBy map seeds part rank a (From lead) = ComesFrom map part rank lead a
LeadsBy map seeds part rank a (Join first second) = JoinsAt map part rank first second a

-- An instruction stands at the address of each line.
pub record AreInCode (map : InstructionMap) (part : Part) : Type 0 where
  pub returns : All (λ line. IsSome (map line.at)) part.returns
  pub leads : All (λ line. IsSome (map line.at)) part.leads

-- k ends the chain of a listed leader.
pub record IsListedEnd (map : InstructionMap) (leads : List LeadLine) (k : ℕ) : Type 0 where
  pub lead : ℕ
  pub listed : IsLead leads lead
  pub ends : IsTerminatorOf map lead k

-- No leader is missing that one of these ends leads to.
abbrev pub LeadsAreClosed : InstructionMap → Part → Type 0
LeadsAreClosed map part =
    (k to : ℕ) → IsListedEnd map part.leads k → LeadsOn map (IsReturn part.returns) k to → IsLead part.leads to

-- The blocks of two leaders, each cut before the next leader of its chain, share no address.
abbrev pub BlocksAreApart : InstructionMap → List LeadLine → Type 0
BlocksAreApart map leads =
    (s u x : ℕ) → IsLead leads s → IsLead leads u → RunsTo map (IsLead leads) s x
    → RunsTo map (IsLead leads) u x → s ≡ u

-- No end is missing among those that return, for which there is a reason by listed ones.
abbrev pub ReturnsAreClosed : InstructionMap → Part → Type 0
ReturnsAreClosed map part =
    (k : ℕ) (why : ReturnWhy) → IsListedEnd map part.leads k → ReturnsBy map (IsReturn part.returns) k why
    → IsReturn part.returns k

-- A valid part, for a program and its seeds. Ranks need not be least, nor reasons the first.
pub record IsValid (map : InstructionMap) (seeds : List ℕ) (part : Part) : Type 0 where
  pub rising : PartRises part
  pub in_code : AreInCode map part
  pub seeds_lead : All (IsLead part.leads) seeds
  pub leads : All (λ line. LeadsBy map seeds part line.rank line.at line.why) part.leads
  pub leads_closed : LeadsAreClosed map part
  pub apart : BlocksAreApart map part.leads
  pub returns_end : All (λ line. IsListedEnd map part.leads line.at) part.returns
  pub returns :
      All (λ line. ReturnsBy map (IsReturnBelow part.returns line.rank) line.at line.why) part.returns
  pub returns_closed : ReturnsAreClosed map part
