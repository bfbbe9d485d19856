-- Steps over the lines of all leaders: whatever ranks they begin with, as many steps as there are
-- lines settle all.
use Rattle.std.proofs.Common.{◌≡◌, ℕ, suc, ◌+◌, ◌<◌, ◌≤◌, ◌^◌, ◌-◌, List, length, map, refl, sym, subst, arith, inl, inr}
use Rattle.std.specs.Prelude.{◌↔◌, All, Contains}
use Rattle.std.proofs.lemmas.Bool.{cases_lt}
use Rattle.std.proofs.lemmas.List.Elements.{All-contains, All-weaker}
use Rattle.cert_text.specs.declared.lines.LeadLine.{LeadLine}
use Rattle.cert_text.specs.declared.lines.LeadWhy.{LeadWhy}
use Rattle.cfg_model.specs.Program.Instructions.{InstructionMap}
use Rattle.cfg_model.specs.Graph.Leader.{IsLeader}
use Rattle.outline_funcs.proofs.Search.{one_by_key}
use Rattle.cert_laws.specs.Lines.{IsLeadBelow}
use Rattle.cert_ends.specs.Places.{LeadsRise}
use Rattle.cert_make.specs.Reason.{LeadsFor}
use Rattle.cert_make.specs.Rank.{LeadsBelow}
use Rattle.cert_make.specs.Inner.Settled.{AreLeadsSettledBy, HasNoLeadReason, IsSettledLead, LeadsHaveSameRanks, ListAllLeaders}
use Rattle.cert_make.proofs.Ranks.{leads_weaker}
use Rattle.cert_make.proofs.RankedLeads.{leaders_have_ranks, ranked_leads}
use Rattle.cert_make.proofs.CanonicalLeads.{lead_in, listed_at}
use Rattle.cert_make.proofs.ExactLeads.{lead_at_of}
use Rattle.cert_make.proofs.LeadRows.{AreLeadsAt, at_index, at_rest, next_at, same_length, same_rise}
use Rattle.cert_make.proofs.Steps.{AreRanks, HasLeast, IsTable, ListsBelow, SettledTo, has_reason, none_settled, ranks_stay, step_settles}

abbrev pub lead_rank_of : LeadLine → ℕ
lead_rank_of l = l.rank

-- There is a reason by leaders that count.
abbrev HasReason : InstructionMap → List ℕ → (ℕ → Type 0) → ℕ → Type 0
HasReason code seeds Counts a = (why : LeadWhy) × LeadsFor code seeds Counts a why

says : (lines : List LeadLine) (r a : ℕ) → IsLeadBelow lines r a ↔ ListsBelow lead_at_of lead_rank_of lines r a
says lines r a = (
  λ b. (b.line, b.listed, b.address, b.lower),
  λ l. record { line = l.0; listed = l.1; address = l.2; lower = l.3 },
)

module _ (code : InstructionMap) (seeds : List ℕ) where
  none_below : (a : ℕ) → LeadsBelow code seeds 0 a → ⊥
  unfolding LeadsBelow
  none_below a below = below

  next_below : (r a : ℕ) → LeadsBelow code seeds (suc r) a ↔ HasReason code seeds (LeadsBelow code seeds r) a
  unfolding LeadsBelow
  next_below r a = (λ below. below, λ reason. reason)

  ranks : AreRanks (IsLeader code seeds) (IsLeader code seeds) (HasReason code seeds) (LeadsBelow code seeds)
  ranks = record {
    weaker = λ A B good more a here reason. (reason.0, leads_weaker code seeds A B (λ p h. more p (good p h) h) a reason.0 reason.1);
    none = none_below;
    next = next_below;
    good = ranked_leads code seeds;
    ranked = λ a here. (leaders_have_ranks code seeds a).0 here;
  }

  -- The ranks below this one are the right ones.
  abbrev pub AreLeadsTo : ℕ → List LeadLine → Type 0
  AreLeadsTo i lines = SettledTo (IsLeader code seeds) (LeadsBelow code seeds) (IsLeadBelow lines) i

  table : (lines : List LeadLine) → LeadsRise lines → ListAllLeaders code seeds lines → IsTable lead_at_of (IsLeader code seeds) lines
  table lines rising all = record {
    among = λ l listed. (all l.at).0 (record { line = l; listed = listed; address = refl });
    complete = λ a here. let found = (all a).1 here in (found.line, found.listed, found.address);
    one_line = one_by_key lead_at_of lines rising;
  }

  least : (lines : List LeadLine) (l : LeadLine) → IsSettledLead code seeds lines l → HasLeast lead_at_of lead_rank_of (HasReason code seeds) (IsLeadBelow lines) l
  least lines l settled = record { has = (l.why, settled.why.fits); least = λ r lt reason. settled.least r reason.0 lt reason.1 }

  -- each leader has a reason by the others
  pub has_one : (lines : List LeadLine) → LeadsRise lines → ListAllLeaders code seeds lines → (most : ℕ) → All (λ (l : LeadLine). l.rank < most) lines → (l : LeadLine) → Contains lines l → HasNoLeadReason code seeds lines l.at → ⊥
  has_one lines rising all most low l listed none =
      let here : IsLeader code seeds l.at = (table lines rising all).among l listed in
      let reason : HasReason code seeds (IsLeadBelow lines most) l.at =
      has_reason lead_at_of lead_rank_of (IsLeader code seeds) (IsLeader code seeds) (HasReason code seeds) (LeadsBelow code seeds) IsLeadBelow ranks says lines (table lines rising all) most low l.at here in
      none most reason.0 reason.1

  module _ (lines next : List LeadLine) (rising : LeadsRise lines) (next_rising : LeadsRise next) (all : ListAllLeaders code seeds lines) (all_next : ListAllLeaders code seeds next) (step : All (IsSettledLead code seeds lines) next) where
    all_least : All (HasLeast lead_at_of lead_rank_of (HasReason code seeds) (IsLeadBelow lines)) next
    all_least = All-weaker (IsSettledLead code seeds lines) (HasLeast lead_at_of lead_rank_of (HasReason code seeds) (IsLeadBelow lines)) (least lines) next step

    settled_to_next : (i : ℕ) → AreLeadsTo i lines → AreLeadsTo (suc i) next
    settled_to_next i settled =
        step_settles lead_at_of lead_rank_of (IsLeader code seeds) (IsLeader code seeds) (HasReason code seeds) (LeadsBelow code seeds) IsLeadBelow ranks says lines (table lines rising all) i settled next (table next next_rising all_next) all_least

    same_ranks : map lead_at_of next ≡ map lead_at_of lines → AreLeadsTo (length lines) lines → LeadsHaveSameRanks next lines
    same_ranks same settled i d within =
        ranks_stay lead_at_of lead_rank_of (IsLeader code seeds) (IsLeader code seeds) (HasReason code seeds) (LeadsBelow code seeds) IsLeadBelow ranks says lines (table lines rising all) settled next (table next next_rising all_next) all_least
        (same_length lines next same) (λ n e lt. sym (at_index lines next same n e lt)) i d within

  -- the ranks of a step are at most one above those before it
  module _ (lines : List LeadLine) (most : ℕ) (low : All (λ (l : LeadLine). l.rank < most) lines) where
    all_lower : (rank a : ℕ) → IsLeadBelow lines rank a → IsLeadBelow lines most a
    all_lower rank a below = record { line = below.line; listed = below.listed; address = below.address; lower = All-contains (λ (l : LeadLine). l.rank < most) lines below.line low below.listed }

    next_rank : (new : LeadLine) → IsSettledLead code seeds lines new → new.rank < most + 1
    next_rank new settled = elim (cases_lt most new.rank) [
      | inl lt ↦ absurd (settled.least most new.why lt (leads_weaker code seeds (IsLeadBelow lines new.rank) (IsLeadBelow lines most) (all_lower new.rank) new.at new.why settled.why.fits))
      | inr le ↦ omega (arith, le)
    ]

    next_low : (next : List LeadLine) → All (IsSettledLead code seeds lines) next → All (λ (l : LeadLine). l.rank < most + 1) next
    next_low next step = All-weaker (IsSettledLead code seeds lines) (λ (l : LeadLine). l.rank < most + 1) next_rank next step

-- ---- the loop over the steps

pub all_leads_at : (code : InstructionMap) (seeds : List ℕ) (start lines : List LeadLine) → map lead_at_of lines ≡ map lead_at_of start → ListAllLeaders code seeds start → ListAllLeaders code seeds lines
all_leads_at code seeds start lines same all a = (
  λ lead. (all a).0 (listed_at start a (subst (λ (xs : List ℕ). Contains xs a) same (lead_in lines a lead))),
  λ here. listed_at lines a (subst (λ (xs : List ℕ). Contains xs a) (sym same) (lead_in start a ((all a).1 here))),
)

-- The lines after so many steps from these.
pub record AreLeadsStepped (code : InstructionMap) (seeds : List ℕ) (start lines : List LeadLine) (i : ℕ) : Type 0 where
  pub at : AreLeadsAt code start lines
  pub low : All (λ (l : LeadLine). l.rank < 2 ^ 32 + i) lines
  pub all : ListAllLeaders code seeds lines
  pub settled : AreLeadsTo code seeds i lines

pub first_leads_stepped : (code : InstructionMap) (seeds : List ℕ) (start : List LeadLine) → AreLeadsAt code start start → All (λ (l : LeadLine). l.rank < 2 ^ 32) start → ListAllLeaders code seeds start → AreLeadsStepped code seeds start start 0
first_leads_stepped code seeds start at low all = record {
  at = at;
  low = All-weaker (λ (l : LeadLine). l.rank < 2 ^ 32) (λ (l : LeadLine). l.rank < 2 ^ 32 + 0) (λ l lt. omega (arith, lt)) start low;
  all = all;
  settled = none_settled lead_at_of lead_rank_of (IsLeader code seeds) (IsLeader code seeds) (HasReason code seeds) (LeadsBelow code seeds) IsLeadBelow (ranks code seeds) says start;
}

pub leads_low_enough : (lines : List LeadLine) (i : ℕ) → i < 2 ^ 63 → All (λ (l : LeadLine). l.rank < 2 ^ 32 + i) lines → All (λ (l : LeadLine). l.rank < 2 ^ 64 - 1) lines
leads_low_enough lines i few low = All-weaker (λ (l : LeadLine). l.rank < 2 ^ 32 + i) (λ (l : LeadLine). l.rank < 2 ^ 64 - 1) (λ l lt. omega (arith, lt, few)) lines low

module _ (code : InstructionMap) (seeds : List ℕ) (start lines next : List LeadLine) (i : ℕ) (stepped : AreLeadsStepped code seeds start lines i) (step : AreLeadsSettledBy code seeds lines lines next) where
  rising : LeadsRise next
  rising = same_rise lines next step.same stepped.at.rising

  all_next : ListAllLeaders code seeds next
  all_next = all_leads_at code seeds lines next step.same stepped.all

  pub next_leads_stepped : AreLeadsStepped code seeds start next (i + 1)
  next_leads_stepped = record {
    at = next_at code seeds start lines next stepped.at step;
    low = All-weaker (λ (l : LeadLine). l.rank < 2 ^ 32 + i + 1) (λ (l : LeadLine). l.rank < 2 ^ 32 + (i + 1)) (λ l lt. omega (arith, lt)) next (next_low code seeds lines (2 ^ 32 + i) stepped.low next step.settled);
    all = all_next;
    settled = λ r a le. settled_to_next code seeds lines next stepped.at.rising rising stepped.all all_next step.settled i stepped.settled r a (omega (arith, le));
  }

  -- after as many steps as there are lines
  pub leads_ended : length lines ≤ i → AreLeadsSettledBy code seeds next start next
  leads_ended many =
      at_rest code seeds start lines next stepped.at step
      (same_ranks code seeds lines next stepped.at.rising rising stepped.all all_next step.settled step.same (λ r a le. stepped.settled r a (omega (arith, le, many))))
