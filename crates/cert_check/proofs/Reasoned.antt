-- The reasons of leaders, by what they are tested by.
use Rattle.std.proofs.Common.{◌≡◌, ℕ, ◌+◌, Bool, List, refl, sym, ap, ◌∙◌, subst, inl, arith}
use Rattle.std.specs.Prelude.{◌↔◌, IsTrue, Option, Some, None, IsSome}
use Rattle.cfg_model.specs.declared.graph.Edge.{Edge}
use Rattle.cfg_model.specs.Program.Instructions.{InstructionMap, IsLawful, length_at}
use Rattle.cfg_model.specs.Program.Chain.{GoesOnTo, IsTerminatorOf, OnChain}
use Rattle.cfg_model.specs.Graph.Block.{IsLastOf, RunsTo}
use Rattle.cfg_model.specs.Graph.Edge.{LeadsTo}
use Rattle.cfg_model.proofs.Program.ChainEnds.{one_end}
use Rattle.cfg_model.proofs.Graphs.LeaderFacts.{has_length}
use Rattle.cfg_model.proofs.Graphs.OneBlock.{one_last}
use Rattle.cert_text.specs.declared.lines.LeadLine.{LeadLine}
use Rattle.cert_laws.specs.Lines.{IsLead, IsLeadBelow, IsReturn}
use Rattle.cert_laws.specs.Ways.{EndsIn, LeadsOn}
use Rattle.cert_laws.specs.Valid.{ComesFrom, GoesOnFrom}
use Rattle.cert_ends.specs.Places.{IsPlace}
use Rattle.cert_ends.proofs.Placed.{lead_at, lead_known, place_of_lead}
use Rattle.cert_check.specs.declared.leads.Reasons.{Reasons}
use Rattle.cert_check.specs.Inner.Blocks.{LiesIn, owner_by}
use Rattle.cert_check.specs.Inner.Jumps.{LeadsAlong}
use Rattle.cert_check.specs.Inner.Ways.{HasEdge, IsWay}
use Rattle.cert_check.specs.Inner.Reasons.{AreReasons}
use Rattle.cert_check.proofs.Jumping.{same_some}
use Rattle.cert_check.proofs.Along.{no_owner, owner_along}
use Rattle.cert_check.proofs.Ways.{SomeWay, led_on, some_way}

pub goes_before : (map : InstructionMap) → IsLawful map → (before a bytes : ℕ) → GoesOnTo map before a → length_at map before ≡ Some bytes → before + bytes ≡ a
goes_before map lawful before a bytes goes size =
    let has = has_length map lawful before a goes in
    let same : has.bytes ≡ bytes = same_some has.bytes bytes (sym has.is ∙ size) in
    let behind : a ≡ before + has.bytes = has.behind in
    omega arith

goes_size : (map : InstructionMap) → IsLawful map → (before a bytes : ℕ) → GoesOnTo map before a → before + bytes ≡ a → length_at map before ≡ Some bytes
goes_size map lawful before a bytes goes at =
    let has = has_length map lawful before a goes in
    let behind : a ≡ before + has.bytes = has.behind in
    let same : has.bytes ≡ bytes = omega arith in
    has.is ∙ ap Some same

pub below_lead : (leads : List LeadLine) (rank a : ℕ) → IsLeadBelow leads rank a → IsLead leads a
below_lead leads rank a h = record { line = h.line; listed = h.listed; address = h.address }

module _ (map : InstructionMap) (number : ℕ → ℕ) (reasons : Reasons) (are : AreReasons map number reasons) where
  abbrev Leads : List LeadLine
  Leads = reasons.part.now.leads

  abbrev Owner : ℕ → Option ℕ
  Owner = owner_by number reasons.blocks.now.owners.places.items

  pub lead_stands : (a : ℕ) → IsLead Leads a → IsSome (map a)
  lead_stands a lead = let place = place_of_lead Leads a lead in lead_known map Leads are.leads place.0 a place.1

  -- a straight instruction right before a, on the chain of a leader

  module _ (bytes lead a before : ℕ) (at : before + bytes ≡ a) where
    same_before : (h : GoesOnFrom map bytes lead a) → h.before ≡ before
    same_before h = omega (arith, goes_before map are.lawful h.before a bytes h.onward h.size)

    pub before_goes : GoesOnFrom map bytes lead a → GoesOnTo map before a
    before_goes h = subst (λ z. GoesOnTo map z a) (same_before h) h.onward

    pub from_owner : (b : Bool) (place j : ℕ) → IsPlace Leads place lead → GoesOnTo map before a → IsSome (map before) → Owner before ≡ Some j
        → IsTrue b ↔ LeadsAlong reasons.blocks.now.runs.items place j → IsTrue b ↔ (IsLead Leads lead × GoesOnFrom map bytes lead a)
    from_owner b place j is goes known owns exact =
        let on_chain = owner_along map Leads are.lawful are.leads reasons.blocks.now.runs.items are.blocks.runs Owner are.blocks.owned place lead before is j known owns in (
          λ e. (
            lead_at Leads place lead is,
            record { before = before; on_chain = on_chain.1 (exact.0 e); onward = goes; size = goes_size map are.lawful before a bytes goes at },
          ),
          λ h. exact.1 (on_chain.0 (subst (OnChain map lead) (same_before h.1) h.1.on_chain)),
        )

    pub from_none : (place : ℕ) → IsPlace Leads place lead → Owner before ≡ None → GoesOnFrom map bytes lead a → ⊥
    from_none place is none h =
        no_owner map Leads are.lawful are.leads reasons.blocks.now.runs.items are.blocks.runs Owner are.blocks.owned place lead before is none
        (subst (OnChain map lead) (same_before h) h.on_chain)

  -- a terminator that leads to a

  module _ (rank lead a k : ℕ) (lower : IsLeadBelow Leads rank lead) (ends : IsTerminatorOf map lead k) where
    lead_place : (i : ℕ) × IsPlace Leads i lead
    lead_place = place_of_lead Leads lead (below_lead Leads rank lead lower)

    pub ends_owned : Owner k ≡ None → ⊥
    ends_owned none =
        no_owner map Leads are.lawful are.leads reasons.blocks.now.runs.items are.blocks.runs Owner are.blocks.owned lead_place.0 lead k lead_place.1 none ends.reaches

    pub from_edges : (b : Bool) (j s : ℕ) → IsSome (map k) → Owner k ≡ Some j → ((start : ℕ) → IsPlace Leads j start → s ≡ start)
        → IsTrue b ↔ HasEdge reasons.edges.now s a → IsTrue b ↔ ComesFrom map reasons.part.now rank lead a
    from_edges b j s known owns starts exact = (there, back)
      where
        lies : LiesIn map Leads k j
        lies = (are.blocks.owned.right k j known owns).1

        place : IsPlace Leads j s
        place = subst (IsPlace Leads j) (sym (starts lies.start lies.place)) lies.place

        last : IsLastOf map (IsLead Leads) s k
        last = record { runs = subst (λ z. RunsTo map (IsLead Leads) z k) (sym (starts lies.start lies.place)) lies.runs; stops = inl ends.ends }

        there : IsTrue b → ComesFrom map reasons.part.now rank lead a
        there e =
            let h : HasEdge reasons.edges.now s a = exact.0 e in
            let way : IsWay map Leads reasons.part.now.returns h.edge = (are.edges.exact h.edge).0 h.listed in
            let same : way.last ≡ k = one_last (subst (λ z. IsLastOf map (IsLead Leads) z way.last) h.leaves way.ends) last in
            let leads_to : LeadsTo map (EndsIn map (IsReturn reasons.part.now.returns)) k a h.edge.kind =
            subst (λ z. LeadsTo map (EndsIn map (IsReturn reasons.part.now.returns)) k z h.edge.kind) h.enters
            (subst (λ z. LeadsTo map (EndsIn map (IsReturn reasons.part.now.returns)) z h.edge.to h.edge.kind) same way.leads_to) in
            record { lower = lower; leads = record { end = k; ends = ends; among = led_on map (IsReturn reasons.part.now.returns) leads_to ends.ends } }

        edge_by : SomeWay map (IsReturn reasons.part.now.returns) k a → HasEdge reasons.edges.now s a
        edge_by way =
            let edge : Edge = record { from = s; to = a; kind = way.kind } in
            record {
              edge = edge;
              listed = (are.edges.exact edge).1 (record { last = k; from = lead_at Leads j s place; ends = last; leads_to = way.leads_to });
              leaves = refl;
              enters = refl;
            }

        back : ComesFrom map reasons.part.now rank lead a → IsTrue b
        back h =
            let same : h.leads.end ≡ k = one_end map lead h.leads.end k h.leads.ends ends in
            exact.1 (edge_by (some_way map (IsReturn reasons.part.now.returns) (subst (λ z. LeadsOn map (IsReturn reasons.part.now.returns) z a) same h.leads.among)))
