-- Blocks that come after one another, and the chains of their leaders.
use Rattle.std.proofs.Common.{◌≡◌, ℕ, ◌+◌, ◌<◌, ◌≤◌, ◌⊎◌, Bool, true, false, List, length, get_or, refl, sym, ap, ◌∙◌, subst, inl, inr, arith}
use Rattle.std.specs.Prelude.{Option, Some, None}
use Rattle.std.proofs.lemmas.Bool.{cases_lt}
use Rattle.std.proofs.lemmas.List.{get_or_past}
use Rattle.cfg_model.specs.Program.Instructions.{InstructionMap, IsLawful, length_at}
use Rattle.cfg_model.specs.Program.Chain.{GoesOnTo, OnChain}
use Rattle.cfg_model.specs.Graph.Block.{RunsTo, IsLastOf}
use Rattle.cfg_model.proofs.Program.ChainFacts.{chain_on, chain_up}
use Rattle.cfg_model.proofs.Graphs.Runs.{goes_up, run_step}
use Rattle.cfg_model.proofs.Graphs.OneBlock.{one_last, straight_once, not_both}
use Rattle.cfg_model.proofs.Graphs.LeaderFacts.{has_length}
use Rattle.cert_text.specs.declared.lines.LeadLine.{LeadLine}
use Rattle.cert_laws.specs.Lines.{IsLead}
use Rattle.cert_laws.proofs.Member.{has_or_not}
use Rattle.cert_ends.specs.Places.{AreLeads, IsPlace}
use Rattle.cert_ends.proofs.Placed.{lead_at, one_address, one_place, place_of_lead, placed_before}
use Rattle.cert_make.specs.Reason.{MeetsBy}
use Rattle.cert_make.specs.declared.runs.Run.{Run}
use Rattle.cert_make.specs.Inner.Runs.{AreRuns, GoesInto, IsRun, IsUpstream, LeadsAlong, run_at}
use Rattle.cert_make.specs.Inner.Fronts.{Falls}

pub false_true : {P : Type 0} → ◌≡◌ {A = Bool} false true → P
false_true e = cc

none_some : (i : ℕ) → None ≡ Some i → ⊥
none_some i e = cc

abbrev nowhere : Run
nowhere = record { last = 0; into = None }

lead_or_not : (leads : List LeadLine) (a : ℕ) → IsLead leads a ⊎ (IsLead leads a → ⊥)
lead_or_not leads a =
    elim (has_or_not (λ (l : LeadLine). l.at) leads a) [
      | inl h ↦ inl (record { line = h.item; listed = h.listed; address = h.is })
      | inr none ↦ inr (λ h. none (record { item = h.line; listed = h.listed; is = h.address }))
    ]

run_chain : {map : InstructionMap} {IsCut : ℕ → Type 0} {s k : ℕ} → RunsTo map IsCut s k → OnChain map s k
run_chain RunsTo.here = OnChain.here
run_chain (RunsTo.on goes none rest) = OnChain.on goes (run_chain rest)

pub along_on : {runs : List Run} {i j k : ℕ} → LeadsAlong runs i j → LeadsAlong runs j k → LeadsAlong runs i k
along_on LeadsAlong.here rest = rest
along_on (LeadsAlong.on e more) rest = LeadsAlong.on e (along_on more rest)

-- a block that comes after another is that one, or the next after a block that comes after it
pub along_last : {runs : List Run} {i j : ℕ} → LeadsAlong runs i j → (i ≡ j) ⊎ ((b : ℕ) × LeadsAlong runs i b × ((run_at runs b).into ≡ Some j))
along_last LeadsAlong.here = inl refl
along_last {runs} (LeadsAlong.on {i = i} {next = next} {j = j} e rest) =
    elim (along_last rest) [
      | inl same ↦ inr (i, LeadsAlong.here, subst (λ n. (run_at runs i).into ≡ Some n) same e)
      | inr more ↦ inr (more.0, LeadsAlong.on e more.1, more.2)
    ]

module _ (map : InstructionMap) (leads : List LeadLine) (lawful : IsLawful map) (are : AreLeads map leads) (runs : List Run) (blocks : AreRuns map leads runs) where
  beyond : (i : ℕ) → length leads ≤ i → (run_at runs i).into ≡ None
  beyond i le =
      let many : length runs ≡ length leads = blocks.as_many in
      ap (λ (r : Run). r.into) (get_or_past runs i nowhere (omega arith))

  within_of : (i next : ℕ) → (run_at runs i).into ≡ Some next → i < length leads
  within_of i next e = elim (cases_lt i (length leads)) [
    | inl lt ↦ lt
    | inr le ↦ absurd (none_some next (sym (beyond i le) ∙ e))
  ]

  -- where the block at place i goes on
  pub record Onward (i next : ℕ) : Type 0 where
    pub start : ℕ
    pub place : IsPlace leads i start
    pub chain : OnChain map start (run_at runs i).last
    pub to : ℕ
    pub target : IsPlace leads next to
    pub goes : GoesOnTo map (run_at runs i).last to

  pub onward : (i next : ℕ) → (run_at runs i).into ≡ Some next → Onward i next
  onward i next e =
      let run : IsRun map leads i (get_or runs i nowhere) = blocks.each i nowhere (within_of i next e) in
      let into : GoesInto map leads (get_or runs i nowhere).last (Some next) = subst (GoesInto map leads (get_or runs i nowhere).last) e run.into in
      record {
        start = run.start;
        place = run.place;
        chain = run_chain run.last.runs;
        to = into.0;
        target = into.1;
        goes = into.2;
      }

  -- a block goes on only into a later one
  pub later : (i next : ℕ) → (run_at runs i).into ≡ Some next → (i < next) × (next < length leads)
  later i next e =
      let on = onward i next e in
      let up : on.start ≤ (run_at runs i).last = chain_up lawful on.chain in
      let above : (run_at runs i).last < on.to = (goes_up map (run_at runs i).last on.to lawful on.goes).0 in
      (placed_before leads are.rise i next on.start on.to on.place on.target (omega arith), on.target.within)

  -- what comes after a block lies on its chain
  along_chain : {i j : ℕ} → LeadsAlong runs i j → (a b : ℕ) → IsPlace leads i a → IsPlace leads j b → OnChain map a b
  along_chain (LeadsAlong.here {i = i}) a b one other = subst (OnChain map a) (one_address leads i a b one other) OnChain.here
  along_chain (LeadsAlong.on {i = i} {next = next} e rest) a b one other =
      let on = onward i next e in
      let rest_chain : OnChain map on.to b = along_chain rest on.to b on.target other in
      subst (λ s. OnChain map s b) (one_address leads i on.start a on.place one) (chain_on on.chain (OnChain.on on.goes rest_chain))

  -- what lies on its chain lies in a block that comes after
  record Reaches (i x : ℕ) : Type 0 where
    place : ℕ
    along : LeadsAlong runs i place
    start : ℕ
    starts : IsPlace leads place start
    runs_to : RunsTo map (IsLead leads) start x

  -- a block up to an address before a leader ends there, and goes on into the block of that leader
  ends_at : (i k a next s : ℕ) → IsPlace leads i s → RunsTo map (IsLead leads) s a → GoesOnTo map a next → IsPlace leads k next → ((run_at runs i).last ≡ a) × ((run_at runs i).into ≡ Some k)
  ends_at i k a next s place run goes target =
      (ends, into_is (run_at runs i).into (subst (λ z. GoesInto map leads z (run_at runs i).into) ends is.into))
    where
      is : IsRun map leads i (get_or runs i nowhere)
      is = blocks.each i nowhere place.within

      last : IsLastOf map (IsLead leads) s a
      last = record { runs = run; stops = inr (next, goes, lead_at leads k next target) }

      ends : (run_at runs i).last ≡ a
      ends = one_last (subst (λ z. IsLastOf map (IsLead leads) z (get_or runs i nowhere).last) (one_address leads i is.start s is.place place) is.last) last

      into_is : (o : Option ℕ) → GoesInto map leads a o → o ≡ Some k
      into_is None terminator = absurd (not_both map a next goes terminator)
      into_is (Some j) (other, at, on) =
          ap Some (one_place leads are.rise j k next (subst (IsPlace leads j) (straight_once map a other next on goes) at) target)

  reach_lies : {a x : ℕ} → OnChain map a x → (i s : ℕ) → IsPlace leads i s → RunsTo map (IsLead leads) s a → Reaches i x
  reach_lies OnChain.here i s place run = record { place = i; along = LeadsAlong.here; start = s; starts = place; runs_to = run }
  reach_lies (OnChain.on {a = a} {next = next} goes rest) i s place run =
      elim (lead_or_not leads next) [
        | inl lead ↦
            let k = place_of_lead leads next lead in
            let more = reach_lies rest k.0 next k.1 RunsTo.here in
            record { place = more.place; along = LeadsAlong.on (ends_at i k.0 a next s place run goes k.1).1 more.along; start = more.start; starts = more.starts; runs_to = more.runs_to }
        | inr none ↦ reach_lies rest i s place (run_step map (IsLead leads) s a next run goes none)
      ]

  -- ---- the leaders that meet a leader

  module _ (i a : ℕ) (here : IsPlace leads i a) (bytes : ℕ) where
    pub falls_meet : (count p : ℕ) → Falls map leads runs count bytes i p → MeetsBy map bytes p a
    falls_meet count p falls =
        let on = onward falls.block i falls.into in
        let up = falls.upstream in
        let chain : OnChain map p on.start = along_chain up.2 p on.start up.1 on.place in
        ((run_at runs falls.block).last, chain_on chain on.chain, subst (GoesOnTo map (run_at runs falls.block).last) (one_address leads i on.to a on.target here) on.goes, falls.size)

    pub meet_falls : (p : ℕ) → IsLead leads p → MeetsBy map bytes p a → Falls map leads runs i bytes i p
    meet_falls p lead meets =
        let place = place_of_lead leads p lead in
        let reach = reach_lies meets.1 place.0 p place.1 RunsTo.here in
        let ends = ends_at reach.place i meets.0 a reach.start reach.starts reach.runs_to meets.2 here in
        record {
          block = reach.place;
          early = (later reach.place i ends.1).0;
          into = ends.1;
          size = subst (λ k. length_at map k ≡ Some bytes) (sym ends.0) meets.3;
          upstream = (place.0, place.1, reach.along);
        }

  -- ---- the leaders upstream of a block

  falls_up : (count bytes i p : ℕ) → Falls map leads runs count bytes i p → IsUpstream leads runs i p
  falls_up count bytes i p falls =
      let up = falls.upstream in
      (up.0, up.1, along_on up.2 (LeadsAlong.on falls.into LeadsAlong.here))

  pub upstream_made : (i p : ℕ) → (Falls map leads runs i 2 i p ⊎ Falls map leads runs i 4 i p) ⊎ IsPlace leads i p → IsUpstream leads runs i p
  upstream_made i p (inl (inl falls)) = falls_up i 2 i p falls
  upstream_made i p (inl (inr falls)) = falls_up i 4 i p falls
  upstream_made i p (inr own) = (i, own, LeadsAlong.here)

  sized : (b i p : ℕ) → IsUpstream leads runs b p → (run_at runs b).into ≡ Some i → Falls map leads runs i 2 i p ⊎ Falls map leads runs i 4 i p
  sized b i p own e =
      let on = onward b i e in
      let has = has_length map lawful (run_at runs b).last on.to on.goes in
      let early : b < i = (later b i e).0 in
      elim has.size [
        | inl two ↦ inl (record { block = b; early = early; into = e; size = has.is ∙ ap Some two; upstream = own })
        | inr four ↦ inr (record { block = b; early = early; into = e; size = has.is ∙ ap Some four; upstream = own })
      ]

  pub upstream_parts : (i p : ℕ) → IsUpstream leads runs i p → (Falls map leads runs i 2 i p ⊎ Falls map leads runs i 4 i p) ⊎ IsPlace leads i p
  upstream_parts i p (place, at, along) = elim (along_last along) [
    | inl same ↦ inr (subst (λ n. IsPlace leads n p) same at)
    | inr more ↦ inl (sized more.0 i p (place, at, more.1) more.2)
  ]

  -- ---- one more block

  pub falls_before : (count bytes j p : ℕ) → Falls map leads runs count bytes j p → Falls map leads runs (count + 1) bytes j p
  falls_before count bytes j p falls = record {
    block = falls.block;
    early = (let lt : falls.block < count = falls.early in omega arith);
    into = falls.into;
    size = falls.size;
    upstream = falls.upstream;
  }
