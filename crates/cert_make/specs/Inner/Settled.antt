-- What a step of the maker finds for leaders: ranks and reasons by the lines of a table.
use Rattle.std.specs.Prelude.{◌≡◌, ◌↔◌, ℕ, ◌+◌, ◌<◌, ◌≤◌, List, All, MatchOption, Option, length, map}
use Rattle.std.specs.Prelude.{slice_index_or}
use Rattle.cert_text.specs.declared.lines.LeadLine.{LeadLine}
use Rattle.cert_text.specs.declared.lines.LeadWhy.{LeadWhy}
use Rattle.cfg_model.specs.Program.Instructions.{InstructionMap}
use Rattle.cfg_model.specs.Graph.Leader.{IsLeader}
use Rattle.cert_laws.specs.Lines.{IsLead, IsLeadBelow}
use Rattle.cert_ends.specs.Places.{IsPlace}
use Rattle.cert_make.specs.declared.firsts.Offer.{Offer}
use Rattle.cert_make.specs.declared.joins.Meeting.{Meeting}
use Rattle.cert_make.specs.Reason.{LeadsFor, MeetsBy}
use Rattle.cert_make.specs.First.{LeadWhyBefore, IsFirst}

-- The line has the least rank for which there is a reason by these lines, and the first such reason.
pub record IsSettledLead (map : InstructionMap) (seeds : List ℕ) (lines : List LeadLine)
    (l : LeadLine) : Type 0 where
  pub why : IsFirst LeadWhyBefore (LeadsFor map seeds (IsLeadBelow lines l.rank) l.at) l.why
  pub least :
      (rank : ℕ) (why : LeadWhy) → rank < l.rank
      → ¬ LeadsFor map seeds (IsLeadBelow lines rank) l.at why

-- Among the leaders for which this holds, `lead` is the first of the least rank by these lines.
pub record IsNearestLead (lines : List LeadLine) (Leads : ℕ → Type 0) (rank lead : ℕ) : Type 0 where
  pub listed : IsLeadBelow lines (rank + 1) lead
  pub leads : Leads lead
  pub first :
      (more p : ℕ) → IsLeadBelow lines more p → Leads p
      → (rank < more) × (more ≡ rank + 1 → lead ≤ p)

-- It holds for no leader of these lines.
abbrev pub NoneLeads : List LeadLine → (ℕ → Type 0) → Type 0
NoneLeads lines Leads = (rank p : ℕ) → IsLeadBelow lines rank p → ¬ Leads p

-- The nearest leaders with a way to each of the leaders of these lines, in their order.
pub record AreNearestLeads (lines : List LeadLine) (Way : ℕ → ℕ → Type 0)
    (nearest : List (Option Offer)) : Type 0 where
  pub long : length nearest ≡ length lines
  pub each :
      (i a : ℕ) (d : Option Offer) → IsPlace lines i a
      → MatchOption (slice_index_or nearest i d) (NoneLeads lines (λ p. Way p a))
      (λ o. IsNearestLead lines (λ p. Way p a) o.rank o.lead)

-- Among the leaders for which this holds, `lead` is the least one up to this rank.
pub record IsLeastLead (lines : List LeadLine) (Leads : ℕ → Type 0) (rank lead : ℕ) : Type 0 where
  pub listed : IsLeadBelow lines (rank + 1) lead
  pub leads : Leads lead
  pub least : (p : ℕ) → IsLeadBelow lines (rank + 1) p → Leads p → lead ≤ p

-- Two chains join at a by these leaders, of the least rank, and the least ones of that rank.
pub record IsFirstJoin (map : InstructionMap) (lines : List LeadLine) (a rank first second : ℕ) : Type 0 where
  pub first_least : IsLeastLead lines (λ p. MeetsBy map 2 p a) rank first
  pub second_least : IsLeastLead lines (λ p. MeetsBy map 4 p a) rank second
  pub below :
      (more p q : ℕ) → IsLeadBelow lines more p → IsLeadBelow lines more q → MeetsBy map 2 p a
      → MeetsBy map 4 q a → rank < more

abbrev pub NoneJoin : InstructionMap → List LeadLine → ℕ → Type 0
NoneJoin map lines a =
    (rank p q : ℕ) → IsLeadBelow lines rank p → IsLeadBelow lines rank q → MeetsBy map 2 p a
    → ¬ MeetsBy map 4 q a

-- The first join to the leader at this place, if there is one.
abbrev pub IsJoinAt : InstructionMap → List LeadLine → ℕ → Option Meeting → Type 0
IsJoinAt map lines i join =
    (a : ℕ) → IsPlace lines i a
    → MatchOption join (NoneJoin map lines a) (λ j. IsFirstJoin map lines a j.rank j.first j.second)

-- The first joins to the leaders of these lines, in their order.
pub record AreJoins (map : InstructionMap) (lines : List LeadLine) (joins : List (Option Meeting)) : Type 0 where
  pub long : length joins ≡ length lines
  pub each : (i : ℕ) (d : Option Meeting) → i < length lines → IsJoinAt map lines i (slice_index_or joins i d)

-- It is the line of this leader.
abbrev pub IsSettledLeadFor : InstructionMap → List ℕ → List LeadLine → ℕ → LeadLine → Type 0
IsSettledLeadFor map seeds lines a l = (l.at ≡ a) × IsSettledLead map seeds lines l

-- There is no reason for the leader a by these lines, whatever their ranks.
abbrev pub HasNoLeadReason : InstructionMap → List ℕ → List LeadLine → ℕ → Type 0
HasNoLeadReason map seeds lines a =
    (rank : ℕ) (why : LeadWhy) → ¬ LeadsFor map seeds (IsLeadBelow lines rank) a why

-- The lines are those of all leaders.
abbrev pub ListAllLeaders : InstructionMap → List ℕ → List LeadLine → Type 0
ListAllLeaders map seeds lines = (a : ℕ) → IsLead lines a ↔ IsLeader map seeds a

-- The next lines are at the same addresses as some, and settled by these lines.
pub record AreLeadsSettledBy (code : InstructionMap) (seeds : List ℕ)
    (lines some next : List LeadLine) : Type 0 where
  pub same : map (λ (l : LeadLine). l.at) next ≡ map (λ (l : LeadLine). l.at) some
  pub settled : All (IsSettledLead code seeds lines) next

-- The lines of two tables have the same ranks, one by one.
abbrev pub LeadsHaveSameRanks : List LeadLine → List LeadLine → Type 0
LeadsHaveSameRanks one other =
    (i : ℕ) (d : LeadLine) → i < length one
    → (slice_index_or one i d).rank ≡ (slice_index_or other i d).rank
