-- The canonical part of a program is valid.
use Rattle.std.proofs.Common.{◌≡◌, ℕ, List, get_or, refl, sym, subst, inl, inr, ⊎_elim}
use Rattle.std.proofs.lemmas.Bool.{cases_eq, cases_lt}
use Rattle.std.proofs.lemmas.List.Elements.{Contains-get_or}
use Rattle.cert_text.specs.declared.lines.ReturnWhy.{ReturnWhy}
use Rattle.cert_text.specs.declared.lines.ReturnWhy.TheVariants.{Itself, To, CallBoth}
use Rattle.cert_text.specs.declared.lines.LeadWhy.{LeadWhy}
use Rattle.cert_text.specs.declared.lines.LeadWhy.TheVariants.{Seed, From, Join}
use Rattle.cert_text.specs.declared.certificate.Part.{Part}
use Rattle.cfg_model.specs.Program.Instructions.{InstructionMap, IsLawful}
use Rattle.cfg_model.specs.Program.Chain.{GoesOnTo, OnChain}
use Rattle.cfg_model.specs.Program.Reach.{AreSeeds, Reached}
use Rattle.cfg_model.specs.Program.Status.{Returns}
use Rattle.cfg_model.specs.Graph.Leader.{StartsBlock, IsLeader}
use Rattle.cfg_model.specs.Graph.Block.{RunsTo}
use Rattle.cfg_model.proofs.Program.Along.{returns_along}
use Rattle.cfg_model.proofs.Graphs.LeaderFacts.{reached_along, target_leads, joined}
use Rattle.cfg_model.proofs.Graphs.Places.{reached_known}
use Rattle.cert_laws.specs.Lines.{IsLead, IsLeadBelow, IsReturn, IsReturnBelow}
use Rattle.cert_laws.specs.Ways.{EndsIn, LeadsOn, ReturnsBy}
use Rattle.cert_laws.specs.Valid.{IsValid, LeadsBy, IsListedEnd}
use Rattle.cert_make.specs.Reason.{EndCounts, ReturnsFor, LeadsFor, GoesTo}
use Rattle.cert_make.specs.Rank.{ReturnsBelow, LeadsBelow}
use Rattle.cert_make.specs.Canonical.{ReturnsReached, IsCanonical}
use Rattle.cert_make.specs.Validity.{CanonicalIsValid}
use Rattle.cert_make.proofs.Ranks.{returns_rise, leads_rise, below_up}
use Rattle.cert_make.proofs.RankedReturns.{ranked_returns, return_has_rank}
use Rattle.cert_make.proofs.RankedLeads.{ranked_leads, reached_under}

-- a run by its last step
data RunsBack (map : InstructionMap) (IsCut : ℕ → Type 0) (s : ℕ) : ℕ → Type 0 where
  here : RunsBack map IsCut s s
  on : {k next : ℕ} → RunsBack map IsCut s k → GoesOnTo map k next → ¬ IsCut next → RunsBack map IsCut s next

run_back : {map : InstructionMap} {IsCut : ℕ → Type 0} {s k : ℕ} (from : ℕ) → RunsBack map IsCut from s → RunsTo map IsCut s k → RunsBack map IsCut from k
run_back from before RunsTo.here = before
run_back from before (RunsTo.on goes none rest) = run_back from (RunsBack.on before goes none) rest

back_chain : {map : InstructionMap} {IsCut : ℕ → Type 0} {s k : ℕ} (from : ℕ) → OnChain map from s → RunsBack map IsCut s k → (seeds : List ℕ) → Reached map seeds from → Reached map seeds k
back_chain from chain RunsBack.here seeds reached = reached_along reached chain
back_chain {map} from chain (RunsBack.on {k = k} {next = next} before goes none) seeds reached =
    reached_along (back_chain from chain before seeds reached) (OnChain.on goes OnChain.here)

module _ (code : InstructionMap) (seeds : List ℕ) (part : Part) (lawful : IsLawful code) (are : AreSeeds code seeds) (is : IsCanonical code seeds part) where
  lead_of : (a : ℕ) → IsLeader code seeds a → IsLead part.leads a
  lead_of a leader = let found = is.leads.complete a leader in record { line = found.0; listed = found.1; address = found.2 }

  leader_of : (a : ℕ) → IsLead part.leads a → IsLeader code seeds a
  leader_of a lead = subst (IsLeader code seeds) lead.address (is.leads.among lead.line lead.listed)

  return_of : (k : ℕ) → ReturnsReached code seeds k → IsReturn part.returns k
  return_of k stands = let found = is.returns.complete k stands in record { line = found.0; listed = found.1; address = found.2 }

  reached_of : (k : ℕ) → IsReturn part.returns k → ReturnsReached code seeds k
  reached_of k back = subst (ReturnsReached code seeds) back.address (is.returns.among back.line back.listed)

  -- where a reached address returns, the end of its chain is listed
  end_listed : (a : ℕ) → Reached code seeds a → Returns code a → EndsIn code (IsReturn part.returns) a
  end_listed a reached back =
      let found = return_has_rank back in
      record {
        end = found.1.0;
        ends = found.1.1;
        among = return_of found.1.0 (record { reached = reached_along reached found.1.1.reaches; ends = found.1.1.ends; returns = ranked_returns code found.0 found.1.0 found.1.2 });
      }

  returns_of : (a : ℕ) → EndsIn code (IsReturn part.returns) a → Returns code a
  returns_of a end = returns_along end.ends.reaches (reached_of end.end end.among).returns

  -- ranks of lines
  return_below : (rank k : ℕ) → ReturnsReached code seeds k → ReturnsBelow code rank k → IsReturnBelow part.returns rank k
  return_below rank k stands below =
      let back = return_of k stands in
      let line = back.line in
      let least = (is.returns.right line back.listed).rank.least in
      let there : ReturnsBelow code rank line.at = subst (ReturnsBelow code rank) (sym back.address) below in
      ⊎_elim
      (λ lt. record { line = line; listed = back.listed; address = back.address; lower = lt })
      (λ le. absurd (least (below_up (ReturnsBelow code) (returns_rise code) rank line.rank line.at le there)))
      (cases_lt line.rank rank)

  lead_below : (rank a : ℕ) → LeadsBelow code seeds rank a → IsLeadBelow part.leads rank a
  lead_below rank a below =
      let lead = lead_of a (ranked_leads code seeds rank a below) in
      let line = lead.line in
      let least = (is.leads.right line lead.listed).rank.least in
      let there : LeadsBelow code seeds rank line.at = subst (LeadsBelow code seeds rank) (sym lead.address) below in
      ⊎_elim
      (λ lt. record { line = line; listed = lead.listed; address = lead.address; lower = lt })
      (λ le. absurd (least (below_up (LeadsBelow code seeds) (leads_rise code seeds) rank line.rank line.at le there)))
      (cases_lt line.rank rank)

  -- reasons of returns
  end_in : (rank a : ℕ) → Reached code seeds a → EndCounts code (ReturnsBelow code rank) a → EndsIn code (IsReturnBelow part.returns rank) a
  end_in rank a reached end = record {
    end = end.0;
    ends = end.1;
    among = return_below rank end.0 (record { reached = reached_along reached end.1.reaches; ends = end.1.ends; returns = ranked_returns code rank end.0 end.2 }) end.2;
  }

  returns_by : (rank k : ℕ) (why : ReturnWhy) → ReturnsReached code seeds k → ReturnsFor code (ReturnsBelow code rank) k why → ReturnsBy code (IsReturnBelow part.returns rank) k why
  returns_by rank k Itself stands reason = reason
  returns_by rank k (To target) stands reason = (reason.0, end_in rank target (Reached.onward stands.reached reason.0) reason.1)
  returns_by rank k CallBoth stands reason =
      let back : Returns code reason.0 = returns_along reason.3.1.reaches (ranked_returns code rank reason.3.0 reason.3.2) in
      record {
        target = reason.0;
        fall = reason.1;
        calls = reason.2;
        callee = end_in rank reason.0 (Reached.called stands.reached reason.2) reason.3;
        behind = end_in rank reason.1 (Reached.past_call stands.reached reason.2 back) reason.4;
      }

  by_returns : (k : ℕ) (why : ReturnWhy) → ReturnsBy code (IsReturn part.returns) k why → Returns code k
  by_returns k Itself reason = Returns.by_itself reason
  by_returns k (To target) reason = Returns.onward reason.0 (returns_of target reason.1)
  by_returns k CallBoth reason = Returns.past_call reason.calls (returns_of reason.target reason.callee) (returns_of reason.fall reason.behind)

  -- reasons of leaders
  leads_on : (k a : ℕ) → Reached code seeds k → GoesTo code k a → LeadsOn code (IsReturn part.returns) k a
  leads_on k a reached (inl target) = LeadsOn.sent target
  leads_on k a reached (inr call) = LeadsOn.past_call call.1 (end_listed call.0 (Reached.called reached call.1) call.2)

  leads_by : (rank a : ℕ) (why : LeadWhy) → LeadsFor code seeds (LeadsBelow code seeds rank) a why → LeadsBy code seeds part rank a why
  leads_by rank a Seed reason = reason
  leads_by rank a (From lead) reason =
      let k = reason.1.0 in
      let reached : Reached code seeds k = reached_along (ranked_leads code seeds rank lead reason.0).reached reason.1.1.reaches in
      record {
        lower = lead_below rank lead reason.0;
        leads = record { end = k; ends = reason.1.1; among = leads_on k a reached reason.1.2 };
      }
  leads_by rank a (Join first second) reason = record {
    first_lower = lead_below rank first reason.0;
    second_lower = lead_below rank second reason.1;
    short = record { before = reason.2.0; on_chain = reason.2.1; onward = reason.2.2; size = reason.2.3 };
    long = record { before = reason.3.0; on_chain = reason.3.1; onward = reason.3.2; size = reason.3.3 };
  }

  end_reached : (k : ℕ) → IsListedEnd code part.leads k → Reached code seeds k
  end_reached k end = reached_along (leader_of end.lead end.listed).reached end.ends.reaches

  led_on : (k to : ℕ) → IsListedEnd code part.leads k → LeadsOn code (IsReturn part.returns) k to → IsLead part.leads to
  led_on k to end (LeadsOn.sent target) = lead_of to (target_leads code seeds k to (end_reached k end) end.ends.ends target)
  led_on k to end (LeadsOn.past_call {target = target} call back) =
      let reached = end_reached k end in
      let returns = returns_of target back in
      lead_of to (record { reached = Reached.past_call reached call returns; starts = StartsBlock.past_call reached call returns })

  ended : (k : ℕ) → ReturnsReached code seeds k → IsListedEnd code part.leads k
  ended k stands =
      let under = reached_under stands.reached in
      record {
        lead = under.lead;
        listed = lead_of under.lead (ranked_leads code seeds under.rank under.lead under.below);
        ends = record { reaches = under.chain; ends = stands.ends };
      }

  -- blocks
  one_start : {s t a : ℕ} → IsLead part.leads s → IsLead part.leads t → RunsBack code (IsLead part.leads) s a → RunsBack code (IsLead part.leads) t a → s ≡ t
  one_start first second RunsBack.here RunsBack.here = refl
  one_start first second RunsBack.here (RunsBack.on before goes none) = absurd (none first)
  one_start first second (RunsBack.on before goes none) RunsBack.here = absurd (none second)
  one_start {s = s} {t = t} first second (RunsBack.on {k = k} {next = next} before goes none) (RunsBack.on {k = j} other way clear) =
      elim (cases_eq k j) [
        | inl e ↦ one_start first second before (subst (RunsBack code (IsLead part.leads) t) (sym e) other)
        | inr apart ↦ absurd (none (lead_of next (joined code seeds lawful k j next
            (back_chain s OnChain.here before seeds (leader_of s first).reached) (back_chain t OnChain.here other seeds (leader_of t second).reached) goes way apart)))
      ]

  pub is_valid : IsValid code seeds part
  is_valid = record {
    rising = record { returns = is.returns.rises; leads = is.leads.rises };
    in_code = record {
      returns = λ i d lt. reached_known lawful are (is.returns.among (get_or part.returns i d) (Contains-get_or part.returns i d lt)).reached;
      leads = λ i d lt. reached_known lawful are (is.leads.among (get_or part.leads i d) (Contains-get_or part.leads i d lt)).reached;
    };
    seeds_lead = λ i d lt.
        let among = Contains-get_or seeds i d lt in
        lead_of (get_or seeds i d) (record { reached = Reached.seed among; starts = StartsBlock.seed among });
    leads = λ i d lt.
        let line = get_or part.leads i d in
        leads_by line.rank line.at line.why (is.leads.right line (Contains-get_or part.leads i d lt)).why.fits;
    leads_closed = led_on;
    apart = λ s u x one other lies too. one_start one other (run_back s RunsBack.here lies) (run_back u RunsBack.here too);
    returns_end = λ i d lt.
        let line = get_or part.returns i d in
        ended line.at (is.returns.among line (Contains-get_or part.returns i d lt));
    returns = λ i d lt.
        let line = get_or part.returns i d in
        let listed = Contains-get_or part.returns i d lt in
        returns_by line.rank line.at line.why (is.returns.among line listed) (is.returns.right line listed).why.fits;
    returns_closed = λ k why end by. return_of k (record { reached = end_reached k end; ends = end.ends.ends; returns = by_returns k why by });
  }

pub canonical_is_valid : CanonicalIsValid
canonical_is_valid code seeds part lawful are is = is_valid code seeds part lawful are is
