-- Blocks that come after one another, and the chains of their leaders.
use Rattle.std.proofs.Common.{◌≡◌, ℕ, ◌<◌, ◌≤◌, ◌⊎◌, List, length, get_or, sym, ap, ◌∙◌, subst, inl, inr, arith}
use Rattle.std.specs.Prelude.{◌↔◌, Option, Some, None, IsSome}
use Rattle.std.proofs.lemmas.Bool.{cases_lt}
use Rattle.std.proofs.lemmas.List.{get_or_past}
use Rattle.cfg_model.specs.declared.flow.Flow.TheVariants.{Straight}
use Rattle.cfg_model.specs.Program.Instructions.{InstructionMap, IsLawful}
use Rattle.cfg_model.specs.Program.Chain.{GoesOnTo, OnChain}
use Rattle.cfg_model.specs.Graph.Block.{RunsTo, IsLastOf}
use Rattle.cfg_model.proofs.Program.ChainFacts.{chain_on, chain_up}
use Rattle.cfg_model.proofs.Graphs.Runs.{goes_up, run_step}
use Rattle.cfg_model.proofs.Graphs.OneBlock.{one_last, straight_once, not_both}
use Rattle.cert_text.specs.declared.lines.LeadLine.{LeadLine}
use Rattle.cert_laws.specs.Lines.{IsLead}
use Rattle.cert_laws.proofs.Member.{has_or_not}
use Rattle.cert_ends.specs.Places.{AreLeads, IsPlace}
use Rattle.cert_ends.proofs.Placed.{lead_at, one_address, one_place, place_of_lead, placed_before}
use Rattle.cert_check.specs.declared.blocks.Run.{Run}
use Rattle.cert_check.specs.Inner.Blocks.{AreOwned, AreRuns, GoesInto, IsRun, LiesIn}
use Rattle.cert_check.specs.Inner.Jumps.{IsForest, LeadsAlong, into_of}
use Rattle.cert_check.proofs.Jumping.{none_some, same_some}

abbrev pub nowhere : Run
nowhere = record { last = 0; into = None; flow = Straight 0 }

pub lead_or_not : (leads : List LeadLine) (a : ℕ) → IsLead leads a ⊎ (IsLead leads a → ⊥)
lead_or_not leads a =
    elim (has_or_not (λ (l : LeadLine). l.at) leads a) [
      | inl h ↦ inl (record { line = h.item; listed = h.listed; address = h.is })
      | inr none ↦ inr (λ h. none (record { item = h.line; listed = h.listed; is = h.address }))
    ]

pub run_chain : {map : InstructionMap} {IsCut : ℕ → Type 0} {s k : ℕ} → RunsTo map IsCut s k → OnChain map s k
run_chain RunsTo.here = OnChain.here
run_chain (RunsTo.on goes none rest) = OnChain.on goes (run_chain rest)

module _ (map : InstructionMap) (leads : List LeadLine) (lawful : IsLawful map) (are : AreLeads map leads) (runs : List Run) (blocks : AreRuns map leads runs) where
  beyond : (i : ℕ) → length leads ≤ i → into_of runs i ≡ None
  beyond i le =
      let many : length runs ≡ length leads = blocks.as_many in
      ap (λ (r : Run). r.into) (get_or_past runs i nowhere (omega arith))

  within_of : (i next : ℕ) → into_of runs i ≡ Some next → i < length leads
  within_of i next e = elim (cases_lt i (length leads)) [
    | inl lt ↦ lt
    | inr le ↦ absurd (none_some next (sym (beyond i le) ∙ e))
  ]

  -- where the block at place i goes on
  record Onward (i next : ℕ) : Type 0 where
    start : ℕ
    place : IsPlace leads i start
    last : ℕ
    chain : OnChain map start last
    to : ℕ
    target : IsPlace leads next to
    goes : GoesOnTo map last to

  onward : (i next : ℕ) → into_of runs i ≡ Some next → Onward i next
  onward i next e =
      let run : IsRun map leads i (get_or runs i nowhere) = blocks.each i nowhere (within_of i next e) in
      let into : GoesInto map leads (get_or runs i nowhere).last (Some next) = subst (GoesInto map leads (get_or runs i nowhere).last) e run.into in
      record {
        start = run.start;
        place = run.place;
        last = (get_or runs i nowhere).last;
        chain = run_chain run.last.runs;
        to = into.0;
        target = into.1;
        goes = into.2;
      }

  pub forest_of : IsForest runs
  forest_of = record {
    onward = λ i next e.
        let on = onward i next e in
        let up : on.start ≤ on.last = chain_up lawful on.chain in
        let above : on.last < on.to = (goes_up map on.last on.to lawful on.goes).0 in
        let many : length runs ≡ length leads = blocks.as_many in
        let within : next < length leads = on.target.within in
        (placed_before leads are.rise i next on.start on.to on.place on.target (omega arith), omega arith);
  }

  -- what comes after a block lies on its chain

  pub along_chain : {i j : ℕ} → LeadsAlong runs i j → (a b : ℕ) → IsPlace leads i a → IsPlace leads j b → OnChain map a b
  along_chain (LeadsAlong.here {i = i}) a b one other = subst (OnChain map a) (one_address leads i a b one other) OnChain.here
  along_chain (LeadsAlong.on {i = i} {next = next} e rest) a b one other =
      let on = onward i next e in
      let rest_chain : OnChain map on.to b = along_chain rest on.to b on.target other in
      subst (λ s. OnChain map s b) (one_address leads i on.start a on.place one) (chain_on on.chain (OnChain.on on.goes rest_chain))

  pub lies_chain : (i j a x : ℕ) → LeadsAlong runs i j → IsPlace leads i a → LiesIn map leads x j → OnChain map a x
  lies_chain i j a x along place lies = chain_on (along_chain along a lies.start place lies.place) (run_chain lies.runs)

  -- what lies on its chain lies in a block that comes after

  pub record Reaches (i x : ℕ) : Type 0 where
    pub place : ℕ
    pub along : LeadsAlong runs i place
    pub lies : LiesIn map leads x place

  goes_in : (i k a next s : ℕ) → IsPlace leads i s → RunsTo map (IsLead leads) s a → GoesOnTo map a next → IsPlace leads k next → into_of runs i ≡ Some k
  goes_in i k a next s place run goes target =
      into_is (into_of runs i) (subst (λ z. GoesInto map leads z (into_of runs i)) ends is.into)
    where
      is : IsRun map leads i (get_or runs i nowhere)
      is = blocks.each i nowhere place.within

      last : IsLastOf map (IsLead leads) s a
      last = record { runs = run; stops = inr (next, goes, lead_at leads k next target) }

      ends : (get_or runs i nowhere).last ≡ a
      ends = one_last (subst (λ z. IsLastOf map (IsLead leads) z (get_or runs i nowhere).last) (one_address leads i is.start s is.place place) is.last) last

      into_is : (o : Option ℕ) → GoesInto map leads a o → o ≡ Some k
      into_is None terminator = absurd (not_both map a next goes terminator)
      into_is (Some j) (other, at, on) =
          ap Some (one_place leads are.rise j k next (subst (IsPlace leads j) (straight_once map a other next on goes) at) target)

  pub reach_lies : {a x : ℕ} → OnChain map a x → (i s : ℕ) → IsPlace leads i s → RunsTo map (IsLead leads) s a → Reaches i x
  reach_lies OnChain.here i s place run = record { place = i; along = LeadsAlong.here; lies = record { start = s; place = place; runs = run } }
  reach_lies (OnChain.on {a = a} {next = next} goes rest) i s place run =
      elim (lead_or_not leads next) [
        | inl lead ↦
            let k = place_of_lead leads next lead in
            let more = reach_lies rest k.0 next k.1 RunsTo.here in
            record { place = more.place; along = LeadsAlong.on (goes_in i k.0 a next s place run goes k.1) more.along; lies = more.lies }
        | inr none ↦ reach_lies rest i s place (run_step map (IsLead leads) s a next run goes none)
      ]

  -- so it is told by the owners

  module _ (owner : ℕ → Option ℕ) (owned : AreOwned map leads owner (length leads)) (i a x : ℕ) (place : IsPlace leads i a) where
    pub reached_owner : OnChain map a x → (j : ℕ) × LiesIn map leads x j × (owner x ≡ Some j) × LeadsAlong runs i j
    reached_owner chain =
        let found = reach_lies chain i a place RunsTo.here in
        let lies = found.lies in
        (found.place, lies, owned.whole x found.place lies.place.within lies, found.along)

    pub owner_along : (j : ℕ) → IsSome (map x) → owner x ≡ Some j → OnChain map a x ↔ LeadsAlong runs i j
    owner_along j known is = (
      λ chain. let found = reached_owner chain in subst (LeadsAlong runs i) (same_some found.0 j (sym found.2 ∙ is)) found.3,
      λ along. lies_chain i j a x along place (owned.right x j known is).1,
    )

    pub no_owner : owner x ≡ None → OnChain map a x → ⊥
    no_owner none chain = let found = reached_owner chain in none_some found.0 (sym none ∙ found.2)
