-- What is known while the block of a leader is walked.
use Rattle.std.proofs.Common.{◌≡◌, ℕ, ◌+◌, ◌<◌, ◌≤◌, ◌⊎◌, List, length, get_or, refl, sym, ap, ◌∙◌, subst, inl, inr, arith}
use Rattle.std.specs.Prelude.{Option, Some, None, IsSome}
use Rattle.std.proofs.lemmas.Bool.{cases_eq, cases_lt}
use Rattle.std.proofs.lemmas.List.{get_or_default}
use Rattle.cfg_model.specs.declared.flow.Flow.{Flow}
use Rattle.cfg_model.specs.Program.Instructions.{InstructionMap, IsLawful, flow_at}
use Rattle.cfg_model.specs.Program.Chain.{GoesOnTo}
use Rattle.cfg_model.specs.Program.Meeting.{IsStop}
use Rattle.cfg_model.specs.Graph.Block.{RunsTo}
use Rattle.cfg_model.proofs.Graphs.Runs.{run_step, goes_up}
use Rattle.cfg_model.proofs.Graphs.OneBlock.{straight_once, not_both}
use Rattle.cert_text.specs.declared.lines.LeadLine.{LeadLine}
use Rattle.cert_laws.specs.Lines.{IsLead}
use Rattle.cert_laws.specs.Valid.{BlocksAreApart}
use Rattle.cert_ends.specs.Places.{AreLeads, IsPlace, LeadsRise}
use Rattle.cert_check.specs.Inner.Blocks.{AreOwned, GoesInto, IsClaimed, IsRun, LiesIn}
use Rattle.cert_ends.proofs.Placed.{lead_at, lead_known, no_lead, one_address, place_at, place_of_lead, places_rise}

abbrev pub Owner : Type 0
Owner = ℕ → Option ℕ

pub run_cases : {map : InstructionMap} {IsCut : ℕ → Type 0} {s k : ℕ} → RunsTo map IsCut s k → (s ≡ k) ⊎ ((next : ℕ) × GoesOnTo map s next × (¬ IsCut next) × RunsTo map IsCut next k)
run_cases RunsTo.here = inl refl
run_cases (RunsTo.on {next = next} goes none rest) = inr (next, goes, none, rest)

pub run_known : {map : InstructionMap} {IsCut : ℕ → Type 0} → IsLawful map → {s k : ℕ} → IsSome (map s) → RunsTo map IsCut s k → IsSome (map k)
run_known lawful known RunsTo.here = known
run_known {map} lawful known (RunsTo.on {s = s} {next = next} goes none rest) = run_known lawful (goes_up map s next lawful goes).2 rest

same_some : (i j : ℕ) → Some i ≡ Some j → i ≡ j
same_some i j e = cc

none_some : (i : ℕ) → None ≡ Some i → ⊥
none_some i e = cc

-- whose block an address lies in, while the block of the leader at place i is walked and has come to `at`
abbrev pub IsOwned : InstructionMap → List LeadLine → (i at : ℕ) → ℕ → ℕ → Type 0
IsOwned map leads i at x j = ((j < i) × LiesIn map leads x j) ⊎ ((j ≡ i) × (x < at) × LiesIn map leads x i)

pub record IsWalked (map : InstructionMap) (leads : List LeadLine) (owner : Owner) (i at : ℕ) : Type 0 where
  pub right : (x j : ℕ) → IsSome (map x) → owner x ≡ Some j → IsOwned map leads i at x j
  pub whole : (x j : ℕ) → j < i → LiesIn map leads x j → owner x ≡ Some j
  pub now : LiesIn map leads at i
  pub way : (x : ℕ) → LiesIn map leads x i → (owner x ≡ Some i) ⊎ RunsTo map (IsLead leads) at x

pub lies_at : (map : InstructionMap) (leads : List LeadLine) (a i : ℕ) → IsPlace leads i a → LiesIn map leads a i
lies_at map leads a i place = record { start = a; place = place; runs = RunsTo.here }

pub walk_starts : (map : InstructionMap) (leads : List LeadLine) (owner : Owner) (i at : ℕ) → IsPlace leads i at → AreOwned map leads owner i → IsWalked map leads owner i at
walk_starts map leads owner i at place owned = record {
  right = λ x j known is. inl (owned.right x j known is);
  whole = owned.whole;
  now = lies_at map leads at i place;
  way = λ x lies. inr (subst (λ s. RunsTo map (IsLead leads) s x) (one_address leads i lies.start at lies.place place) lies.runs);
}

-- what the walk of a block ends with
pub run_from : (map : InstructionMap) (leads : List LeadLine) (owner : Owner) (i at : ℕ) (into : Option ℕ) (flow : Flow) → flow_at map at ≡ Some flow → IsWalked map leads owner i at → IsStop map (IsLead leads) at → GoesInto map leads at into
    → IsRun map leads i (record { last = at; into = into; flow = flow })
run_from map leads owner i at into flow flows walked stops goes = record {
  start = walked.now.start;
  place = walked.now.place;
  last = record { runs = walked.now.runs; stops = stops };
  into = goes;
  flow = flows;
}

module _ (map : InstructionMap) (leads : List LeadLine) (lawful : IsLawful map) (are : AreLeads map leads) where
  pub lies_known : (x i : ℕ) → LiesIn map leads x i → IsSome (map x)
  lies_known x i lies = run_known lawful (lead_known map leads are i lies.start lies.place) lies.runs

  -- an address that has an owner lies in two blocks
  pub walk_meets : (owner : Owner) (i at : ℕ) → IsWalked map leads owner i at → IsSome (owner at) → ¬ BlocksAreApart map leads
  walk_meets owner i at walked has = meets (owner at) refl has
    where
      both : (j : ℕ) → IsOwned map leads i at at j → ¬ BlocksAreApart map leads
      both j (inl (lt, lies)) = λ apart.
          let same : lies.start ≡ walked.now.start = apart lies.start walked.now.start at (lead_at leads j lies.start lies.place) (lead_at leads i walked.now.start walked.now.place) lies.runs walked.now.runs in
          let less : lies.start < walked.now.start = places_rise leads are.rise j i lies.start walked.now.start lies.place walked.now.place lt in
          omega arith
      both j (inr (same, less, lies)) = λ apart. omega arith

      meets : (o : Option ℕ) → owner at ≡ o → IsSome o → ¬ BlocksAreApart map leads
      meets None e none = cc
      meets (Some j) e some = both j (walked.right at j (lies_known at i walked.now) e)

  -- the address that was claimed
  module _ (old new : Owner) (i at : ℕ) (walked : IsWalked map leads old i at) (claimed : IsClaimed map old new at i) where
    kept : (x j : ℕ) → IsSome (map x) → old x ≡ Some j → new x ≡ Some j
    kept x j known is =
        elim (cases_eq x at) [
          | inl e ↦ absurd (none_some j (sym claimed.free ∙ sym (ap old e) ∙ is))
          | inr ne ↦ claimed.others x known ne ∙ is
        ]

    right_now : (next : ℕ) → at < next → (x j : ℕ) → IsSome (map x) → new x ≡ Some j → IsOwned map leads i next x j
    right_now next up x j known is =
        elim (cases_eq x at) [
          | inl e ↦
              let same : j ≡ i = same_some j i (sym is ∙ ap new e ∙ claimed.here) in
              inr (same, omega arith, subst (λ y. LiesIn map leads y i) (sym e) walked.now)
          | inr ne ↦ elim (walked.right x j known (sym (claimed.others x known ne) ∙ is)) [
            | inl before ↦ inl before
            | inr (same, less, lies) ↦ inr (same, omega arith, lies)
          ]
        ]

    whole_now : (x j : ℕ) → j < i → LiesIn map leads x j → new x ≡ Some j
    whole_now x j lt lies = kept x j (lies_known x j lies) (walked.whole x j lt lies)

    way_now : (x : ℕ) → LiesIn map leads x i → (new x ≡ Some i) ⊎ RunsTo map (IsLead leads) at x
    way_now x lies = elim (walked.way x lies) [
      | inl is ↦ inl (kept x i (lies_known x i lies) is)
      | inr runs ↦ inr runs
    ]

    -- the walk goes on
    pub walk_on : (next : ℕ) → GoesOnTo map at next → ¬ IsLead leads next → IsWalked map leads new i next
    walk_on next goes none = record {
      right = right_now next (goes_up map at next lawful goes).0;
      whole = whole_now;
      now = record { start = walked.now.start; place = walked.now.place; runs = run_step map (IsLead leads) walked.now.start at next walked.now.runs goes none };
      way = λ x lies. elim (way_now x lies) [
        | inl is ↦ inl is
        | inr runs ↦ elim (run_cases runs) [
          | inl e ↦ inl (sym (ap new e) ∙ claimed.here)
          | inr more ↦ inr (subst (λ s. RunsTo map (IsLead leads) s x) (straight_once map at more.0 next more.1 goes) more.3)
        ]
      ];
    }

    -- nothing of the block lies past a stop
    past_stop : (x : ℕ) → IsStop map (IsLead leads) at → RunsTo map (IsLead leads) at x → at ≡ x
    past_stop x stops runs = elim (run_cases runs) [
      | inl e ↦ e
      | inr more ↦ elim stops [
        | inl ends ↦ absurd (not_both map at more.0 more.1 ends)
        | inr into ↦ absurd (more.2 (subst (IsLead leads) (straight_once map at into.0 more.0 into.1 more.1) into.2))
      ]
    ]

    -- the walk ends
    pub walk_ends : IsStop map (IsLead leads) at → AreOwned map leads new (i + 1)
    walk_ends stops = record {
      right = λ x j known is. elim (right_now (at + 1) (omega arith) x j known is) [
        | inl (lt, lies) ↦ (omega arith, lies)
        | inr (same, less, lies) ↦ (omega arith, subst (λ k. LiesIn map leads x k) (sym same) lies)
      ];
      whole = λ x j lt lies. elim (cases_lt j i) [
        | inl less ↦ whole_now x j less lies
        | inr le ↦ last x j (omega arith) lies
      ];
    }
      where
        last_way : (x : ℕ) → (new x ≡ Some i) ⊎ RunsTo map (IsLead leads) at x → new x ≡ Some i
        last_way x (inl is) = is
        last_way x (inr runs) = sym (ap new (past_stop x stops runs)) ∙ claimed.here

        last : (x j : ℕ) → j ≡ i → LiesIn map leads x j → new x ≡ Some j
        last x j same lies = last_way x (way_now x (subst (λ k. LiesIn map leads x k) same lies)) ∙ ap Some (sym same)

-- blocks whose addresses have one owner each are apart
pub owned_apart : (map : InstructionMap) (leads : List LeadLine) (owner : Owner) → AreOwned map leads owner (length leads) → BlocksAreApart map leads
owned_apart map leads owner owned = λ s u x one other runs too.
    let i = place_of_lead leads s one in
    let j = place_of_lead leads u other in
    let first = owned.whole x i.0 i.1.within (record { start = s; place = i.1; runs = runs }) in
    let second = owned.whole x j.0 j.1.within (record { start = u; place = j.1; runs = too }) in
    let same : i.0 ≡ j.0 = same_some i.0 j.0 (sym first ∙ second) in
    one_address leads j.0 s u (subst (λ k. IsPlace leads k s) same i.1) j.1

-- what no line up to this place is, and no line from it on, is no leader
pub not_listed : (leads : List LeadLine) → LeadsRise leads → (ahead next : ℕ) → ((k : ℕ) (d : LeadLine) → k < ahead → (get_or leads k d).at < next)
    → ((d : LeadLine) → ahead < length leads → next ≤ (get_or leads ahead d).at) → ¬ IsPlace leads ahead next → ¬ IsLead leads next
not_listed leads up ahead next before there none = λ lead.
    let place = place_of_lead leads next lead in
    elim (cases_lt place.0 ahead) [
      | inl lt ↦
          let less : (get_or leads place.0 no_lead).at < next = before place.0 no_lead lt in
          let is : (get_or leads place.0 no_lead).at ≡ next = place.1.address no_lead in
          absurd (omega arith)
      | inr le ↦ elim (cases_eq ahead place.0) [
        | inl e ↦ none (subst (λ k. IsPlace leads k next) (sym e) place.1)
        | inr ne ↦
            let within : place.0 < length leads = place.1.within in
            let high : next ≤ (get_or leads ahead no_lead).at = there no_lead (omega arith) in
            let less : (get_or leads ahead no_lead).at < next =
            places_rise leads up ahead place.0 (get_or leads ahead no_lead).at next (place_at leads ahead no_lead (omega arith)) place.1 (omega arith) in
            absurd (omega arith)
      ]
    ]

-- a leader that comes so far ahead is passed
pub passed_on : (leads : List LeadLine) (i at next : ℕ) → ((k : ℕ) (d : LeadLine) → k < i → (get_or leads k d).at ≤ at) → at < next → (k : ℕ) (d : LeadLine) → k < i → (get_or leads k d).at < next
passed_on leads i at next old up k d lt = let low : (get_or leads k d).at ≤ at = old k d lt in omega arith

pub passed_first : (leads : List LeadLine) → LeadsRise leads → (i : ℕ) (e : LeadLine) → i < length leads → (k : ℕ) (d : LeadLine) → k < i + 1 → (get_or leads k d).at ≤ (get_or leads i e).at
passed_first leads up i e within k d lt =
    let same : (get_or leads i d).at ≡ (get_or leads i e).at = ap (λ (l : LeadLine). l.at) (get_or_default leads i d e within) in
    elim (cases_eq k i) [
      | inl eq ↦ let also : (get_or leads k d).at ≡ (get_or leads i d).at = ap (λ n. (get_or leads n d).at) eq in omega arith
      | inr ne ↦ let less : (get_or leads k d).at < (get_or leads i d).at = up k i d (omega arith) within in omega arith
    ]

-- before any block is walked
pub none_owned : (map : InstructionMap) (leads : List LeadLine) (owner : Owner) → ((x : ℕ) → owner x ≡ None) → AreOwned map leads owner 0
none_owned map leads owner none = record {
  right = λ x i known is. absurd (none_some i (sym (none x) ∙ is));
  whole = λ x i lt lies. absurd (omega arith);
}
