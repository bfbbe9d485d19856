-- The lines of the leaders, in their list.
use Rattle.std.proofs.Common.{◌≡◌, ℕ, ◌<◌, ◌↔◌, List, map, length, get_or, refl, sym, subst, ap, ◌∙◌, arith}
use Rattle.std.specs.Prelude.{All, Contains, IsSome}
use Rattle.std.specs.List.Sorted.{IsStrictlyIncreasing}
use Rattle.std.proofs.lemmas.List.{length-map, get_or_default}
use Rattle.std.proofs.Math.ListN.{get_or-map}
use Rattle.cert_text.specs.declared.lines.LeadLine.{LeadLine}
use Rattle.cert_text.specs.declared.lines.ReturnLine.{ReturnLine}
use Rattle.cfg_model.specs.Program.Instructions.{InstructionMap}
use Rattle.cfg_model.specs.Program.Chain.{IsTerminatorOf}
use Rattle.cfg_model.specs.Program.Reach.{Reached}
use Rattle.cfg_model.specs.Program.Status.{Returns}
use Rattle.cfg_model.specs.Graph.Leader.{IsLeader}
use Rattle.cfg_model.proofs.Program.Along.{returns_along}
use Rattle.cfg_model.proofs.Program.ChainEnds.{one_end}
use Rattle.cfg_model.proofs.Graphs.LeaderFacts.{reached_along}
use Rattle.cert_ends.proofs.ListedEnds.{terminator_stands}
use Rattle.cert_laws.specs.Lines.{IsLead, IsReturn}
use Rattle.cert_ends.specs.Places.{LeadsRise}
use Rattle.cert_ends.proofs.Adjacent.{rise_on}
use Rattle.cert_ends.proofs.Placed.{no_lead}
use Rattle.cert_make.specs.Canonical.{IsLeadLine, ListsLines, ReturnsReached}
use Rattle.cert_make.specs.Inner.Offers.{TellCall}
use Rattle.cert_make.specs.Inner.Settled.{AreLeadsSettledBy, ListAllLeaders}
use Rattle.cert_make.proofs.RankedReturns.{ranked_returns, return_has_rank}
use Rattle.cert_make.proofs.ExactLeads.{lead_at_of, right_leads}

pub start_rises : (leaders : List ℕ) (start : List LeadLine) → map lead_at_of start ≡ leaders → IsStrictlyIncreasing leaders → LeadsRise start
start_rises leaders start same up = rise_on lead_at_of start no_lead (rw same up)

pub start_stands : (code : InstructionMap) (leaders : List ℕ) (start : List LeadLine) → map lead_at_of start ≡ leaders → All (λ a. IsSome (code a)) leaders → All (λ (l : LeadLine). IsSome (code l.at)) start
start_stands code leaders start same known i d lt =
    let long : length (map lead_at_of start) ≡ length start = length-map start lead_at_of in
    let other : length (map lead_at_of start) ≡ length leaders = ap length same in
    let is : get_or leaders i (lead_at_of d) ≡ (get_or start i d).at = ap (λ (ns : List ℕ). get_or ns i (lead_at_of d)) (sym same) ∙ get_or-map lead_at_of start i d in
    subst (λ (a : ℕ). IsSome (code a)) is (known i (lead_at_of d) (omega arith))

at_listed : (lines : List LeadLine) (l : LeadLine) → Contains lines l → Contains (map lead_at_of lines) l.at
at_listed lines l listed =
    let long : length (map lead_at_of lines) ≡ length lines = length-map lines lead_at_of in
    (listed.0, let lt = listed.1 in omega arith, get_or_default (map lead_at_of lines) listed.0 l.at l.at (let lt = listed.1 in omega arith) ∙ get_or-map lead_at_of lines listed.0 l ∙ ap lead_at_of listed.2)

pub listed_at : (lines : List LeadLine) (k : ℕ) → Contains (map lead_at_of lines) k → IsLead lines k
listed_at lines k listed =
    let long : length (map lead_at_of lines) ≡ length lines = length-map lines lead_at_of in
    let lt = listed.1 in
    let inside : listed.0 < length lines = omega arith in
    record {
      line = get_or lines listed.0 no_lead;
      listed = (listed.0, inside, get_or_default lines listed.0 (get_or lines listed.0 no_lead) no_lead inside);
      address = sym (get_or-map lead_at_of lines listed.0 no_lead) ∙ get_or_default (map lead_at_of lines) listed.0 no_lead.at k lt ∙ listed.2;
    }

pub lead_in : (lines : List LeadLine) (a : ℕ) → IsLead lines a → Contains (map lead_at_of lines) a
lead_in lines a lead = subst (λ (x : ℕ). Contains (map lead_at_of lines) x) lead.address (at_listed lines lead.line lead.listed)

-- the lines of all leaders
pub all_listed : (code : InstructionMap) (seeds leaders : List ℕ) (lines : List LeadLine) → map lead_at_of lines ≡ leaders → ((a : ℕ) → Contains leaders a ↔ IsLeader code seeds a) → ListAllLeaders code seeds lines
all_listed code seeds leaders lines at exact a = (
  λ lead. (exact a).0 (subst (λ (xs : List ℕ). Contains xs a) at (lead_in lines a lead)),
  λ here. listed_at lines a (subst (λ (xs : List ℕ). Contains xs a) (sym at) ((exact a).1 here)),
)

-- an instruction stands at each of the returns
pub returns_stand : (code : InstructionMap) (seeds : List ℕ) (returns : List ReturnLine) → ((k : ℕ) → IsReturn returns k ↔ ReturnsReached code seeds k) → All (λ (l : ReturnLine). IsSome (code l.at)) returns
returns_stand code seeds returns exact i d lt =
    let line = get_or returns i d in
    terminator_stands code line.at ((exact line.at).0 (record { line = line; listed = (i, lt, get_or_default returns i line d lt); address = refl })).ends

-- the returns tell which calls of reached terminators come back
pub returns_tell : (code : InstructionMap) (seeds leaders : List ℕ) (returns : List ReturnLine) → ((a : ℕ) → Contains leaders a ↔ IsLeader code seeds a) → ((k : ℕ) → IsReturn returns k ↔ ReturnsReached code seeds k)
    → (a k : ℕ) → Contains leaders a → IsTerminatorOf code a k → TellCall code returns k
returns_tell code seeds leaders returns are exact a k listed ends target fall end call there =
    let leader : IsLeader code seeds a = (are a).0 listed in
    let reached : Reached code seeds end = reached_along (Reached.called (reached_along leader.reached ends.reaches) call) there.reaches in (
      λ back. returns_along there.reaches ((exact end).0 back).returns,
      λ back.
          let found = return_has_rank back in
          let is : found.1.0 ≡ end = one_end code target found.1.0 end found.1.1 there in
          (exact end).1 (record { reached = reached; ends = there.ends; returns = subst (Returns code) is (ranked_returns code found.0 found.1.0 found.1.2) }),
    )

pub canonical_leads : (code : InstructionMap) (seeds leaders : List ℕ) (start lines : List LeadLine) → map lead_at_of start ≡ leaders → IsStrictlyIncreasing leaders → ((a : ℕ) → Contains leaders a ↔ IsLeader code seeds a) → AreLeadsSettledBy code seeds lines start lines
    → ListsLines lead_at_of (IsLeader code seeds) (IsLeadLine code seeds) lines
canonical_leads code seeds leaders start lines at up exact settled =
    let same : map lead_at_of lines ≡ leaders = settled.same ∙ at in
    let among : (a : ℕ) → IsLeader code seeds a → IsLead lines a = λ a here. listed_at lines a (subst (λ (xs : List ℕ). Contains xs a) (sym same) ((exact a).1 here)) in
    record {
      rises = rw same up;
      among = λ l listed. (exact l.at).0 (subst (λ (xs : List ℕ). Contains xs l.at) same (at_listed lines l listed));
      right = right_leads code seeds lines settled.settled among (start_rises leaders lines same up);
      complete = λ a here. let found = among a here in (found.line, found.listed, found.address);
    }
