-- The walk of a block, up to the next leader.
use Rattle.std.proofs.Common.{◌≡◌, ℕ, ◌+◌, ◌<◌, ◌≤◌, List, length, get_or, refl, sym, ap, subst, inl, inr, arith}
use Rattle.std.specs.Prelude.{Option, Some}
use Rattle.std.proofs.lemmas.Bool.{cases_eq, cases_lt}
use Rattle.std.proofs.lemmas.List.{get_or_default}
use Rattle.cfg_model.specs.Program.Instructions.{InstructionMap}
use Rattle.cfg_model.specs.declared.flow.Flow.{Flow}
use Rattle.cfg_model.specs.declared.flow.Flow.TheVariants.{Straight, Branch, Jump, Call, IndirectCall, Table, Return, Unknown, Stop}
use Rattle.cfg_model.specs.Program.Chain.{EndsChain, GoesOnTo}
use Rattle.cfg_model.specs.Program.Meeting.{IsStop}
use Rattle.cfg_model.specs.Graph.Block.{RunsTo}
use Rattle.cfg_model.proofs.Graphs.Runs.{run_step}
use Rattle.cert_text.specs.declared.lines.LeadLine.{LeadLine}
use Rattle.cert_laws.specs.Lines.{IsLead}
use Rattle.cert_ends.specs.Places.{IsPlace, LeadsRise}
use Rattle.cert_ends.proofs.Placed.{no_lead, place_at, place_of_lead, places_rise}
use Rattle.cert_make.specs.Inner.Runs.{GoesInto, IsRun}

-- the block of the leader at place i has come to `at`
pub record IsWalked (map : InstructionMap) (leads : List LeadLine) (i at : ℕ) : Type 0 where
  pub start : ℕ
  pub place : IsPlace leads i start
  pub runs : RunsTo map (IsLead leads) start at

pub walk_starts : (map : InstructionMap) (leads : List LeadLine) (i at : ℕ) → IsPlace leads i at → IsWalked map leads i at
walk_starts map leads i at place = record { start = at; place = place; runs = RunsTo.here }

pub walk_on : (map : InstructionMap) (leads : List LeadLine) (i at next : ℕ) → IsWalked map leads i at → GoesOnTo map at next → ¬ IsLead leads next → IsWalked map leads i next
walk_on map leads i at next walked goes none = record {
  start = walked.start;
  place = walked.place;
  runs = run_step map (IsLead leads) walked.start at next walked.runs goes none;
}

-- what the walk of a block ends with
pub run_from : (map : InstructionMap) (leads : List LeadLine) (i at : ℕ) (into : Option ℕ) → IsWalked map leads i at → IsStop map (IsLead leads) at → GoesInto map leads at into → IsRun map leads i (record { last = at; into = into })
run_from map leads i at into walked stops goes = record {
  start = walked.start;
  place = walked.place;
  last = record { runs = walked.runs; stops = stops };
  into = goes;
}

-- what no line up to this place is, and no line from it on, is no leader
pub not_listed : (leads : List LeadLine) → LeadsRise leads → (ahead next : ℕ) → ((k : ℕ) (d : LeadLine) → k < ahead → (get_or leads k d).at < next)
    → ((d : LeadLine) → ahead < length leads → next ≤ (get_or leads ahead d).at) → ¬ IsPlace leads ahead next → ¬ IsLead leads next
not_listed leads up ahead next before there none = λ lead.
    let place = place_of_lead leads next lead in
    elim (cases_lt place.0 ahead) [
      | inl lt ↦
          let less : (get_or leads place.0 no_lead).at < next = before place.0 no_lead lt in
          let is : (get_or leads place.0 no_lead).at ≡ next = place.1.address no_lead in
          absurd (omega arith)
      | inr le ↦ elim (cases_eq ahead place.0) [
        | inl e ↦ none (subst (λ k. IsPlace leads k next) (sym e) place.1)
        | inr ne ↦
            let within : place.0 < length leads = place.1.within in
            let high : next ≤ (get_or leads ahead no_lead).at = there no_lead (omega arith) in
            let less : (get_or leads ahead no_lead).at < next =
            places_rise leads up ahead place.0 (get_or leads ahead no_lead).at next (place_at leads ahead no_lead (omega arith)) place.1 (omega arith) in
            absurd (omega arith)
      ]
    ]

-- the lines up to place i lie no higher than that
pub passed_first : (leads : List LeadLine) → LeadsRise leads → (i : ℕ) (e : LeadLine) → i < length leads → (k : ℕ) (d : LeadLine) → k < i + 1 → (get_or leads k d).at ≤ (get_or leads i e).at
passed_first leads up i e within k d lt =
    let same : (get_or leads i d).at ≡ (get_or leads i e).at = ap (λ (l : LeadLine). l.at) (get_or_default leads i d e within) in
    elim (cases_eq k i) [
      | inl eq ↦ let also : (get_or leads k d).at ≡ (get_or leads i d).at = ap (λ n. (get_or leads n d).at) eq in omega arith
      | inr ne ↦ let less : (get_or leads k d).at < (get_or leads i d).at = up k i d (omega arith) within in omega arith
    ]

-- what is not straight ends its chain
pub ends_by : (flow : Flow) → ((next : ℕ) → flow ≡ Straight next → ⊥) → EndsChain (Some flow)
ends_by (Straight next) none = none next refl
ends_by (Branch taken fall) none = tt
ends_by (Jump target) none = tt
ends_by (Call target fall) none = tt
ends_by (IndirectCall fall) none = tt
ends_by (Table entries full is_open) none = tt
ends_by Return none = tt
ends_by Unknown none = tt
ends_by Stop none = tt
