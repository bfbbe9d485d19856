-- No leader is missing exactly if each edge from a block leads to one.
use Rattle.std.proofs.Common.{◌≡◌, ℕ, List, length, get_or, sym, ap, ◌∙◌, subst, inl, inr}
use Rattle.std.specs.Prelude.{All, Option, Some, None, IsSome}
use Rattle.std.proofs.lemmas.List.Elements.{All-contains, Contains-get_or}
use Rattle.cfg_model.specs.declared.graph.Edge.{Edge}
use Rattle.cfg_model.specs.declared.graph.EdgeKind.{EdgeKind}
use Rattle.cfg_model.specs.Program.Instructions.{InstructionMap, IsLawful}
use Rattle.cfg_model.specs.Program.Chain.{GoesOnTo}
use Rattle.cfg_model.specs.Program.Successors.{Calls}
use Rattle.cfg_model.specs.Graph.Edge.{LeadsTo}
use Rattle.cfg_model.proofs.Graphs.OneBlock.{straight_once}
use Rattle.cert_text.specs.declared.lines.LeadLine.{LeadLine}
use Rattle.cert_text.specs.declared.certificate.Part.{Part}
use Rattle.cert_laws.specs.Lines.{IsLead, IsReturn}
use Rattle.cert_laws.specs.Valid.{LeadsAreClosed}
use Rattle.cert_ends.specs.Places.{AreLeads, IsPlace}
use Rattle.cert_ends.proofs.Placed.{lead_at, lead_known, place_at, place_of_lead}
use Rattle.cert_check.specs.declared.blocks.Blocks.{Blocks}
use Rattle.cert_check.specs.Inner.Blocks.{AreBlocks, AreOwned, owner_by}
use Rattle.cert_check.specs.Inner.Ways.{AreWays, IsWay}
use Rattle.cert_check.proofs.Jumping.{none_some, same_some}
use Rattle.cert_check.proofs.Along.{reached_owner, run_chain}
use Rattle.cert_check.proofs.Walked.{lies_at}
use Rattle.cert_check.proofs.Ways.{led_on, some_way}

-- a leader is the first address of the block that it lies in

module _ (map : InstructionMap) (leads : List LeadLine) (are : AreLeads map leads) (owner : ℕ → Option ℕ) (owned : AreOwned map leads owner (length leads)) (a : ℕ) where
  pub lead_stands : IsLead leads a → IsSome (map a)
  lead_stands lead = let place = place_of_lead leads a lead in lead_known map leads are place.0 a place.1

  pub lead_owner : (lead : IsLead leads a) → owner a ≡ Some (place_of_lead leads a lead).0
  lead_owner lead = let place = place_of_lead leads a lead in owned.whole a place.0 place.1.within (lies_at map leads a place.0 place.1)

  pub no_lead_here : owner a ≡ None → IsLead leads a → ⊥
  no_lead_here none lead = none_some (place_of_lead leads a lead).0 (sym none ∙ lead_owner lead)

  pub lead_here : (i : ℕ) (d : LeadLine) → IsSome (map a) → owner a ≡ Some i → (get_or leads i d).at ≡ a → IsPlace leads i a
  lead_here i d known is at = subst (IsPlace leads i) at (place_at leads i d (owned.right a i known is).0)

  pub lead_elsewhere : (i : ℕ) (d : LeadLine) → owner a ≡ Some i → ((get_or leads i d).at ≡ a → ⊥) → IsLead leads a → ⊥
  lead_elsewhere i d is none lead =
      let place = place_of_lead leads a lead in
      let same : i ≡ place.0 = same_some i place.0 (sym is ∙ lead_owner lead) in
      none (ap (λ k. (get_or leads k d).at) same ∙ place.1.address d)

-- an instruction that goes straight on has no other way on
pub straight_to : {map : InstructionMap} {Back : ℕ → Type 0} {k to next : ℕ} {kind : EdgeKind} → LeadsTo map Back k to kind → GoesOnTo map k next → to ≡ next
straight_to {map} {next = next} (LeadsTo.straight {k = k} {to = to} h) goes = straight_once map k to next h goes
straight_to (LeadsTo.not_taken h) goes = cc
straight_to (LeadsTo.taken h) goes = cc
straight_to (LeadsTo.jump h) goes = cc
straight_to (LeadsTo.call h) goes = cc
straight_to (LeadsTo.after_indirect h) goes = cc
straight_to (LeadsTo.after_call h back) goes = cc
straight_to (LeadsTo.table h c) goes = cc
straight_to (LeadsTo.landing calls c) goes = absurd (subst Calls goes calls)

module _ (map : InstructionMap) (number : ℕ → ℕ) (part : Part) (blocks : Blocks) (edges : List Edge) (lawful : IsLawful map) (leads : AreLeads map part.leads)
    (are : AreBlocks map number part.leads blocks) (ways : AreWays map part.leads part.returns edges) where
  abbrev pub EnterLeads : Type 0
  EnterLeads = All (λ (e : Edge). IsLead part.leads e.to) edges

  edge_enters : LeadsAreClosed map part → (edge : Edge) → IsWay map part.leads part.returns edge → IsLead part.leads edge.to
  edge_enters closed edge way =
      elim way.ends.stops [
        | inl ends ↦
            closed way.last edge.to (record { lead = edge.from; listed = way.from; ends = record { reaches = run_chain way.ends.runs; ends = ends } })
            (led_on map (IsReturn part.returns) way.leads_to ends)
        | inr into ↦ subst (IsLead part.leads) (sym (straight_to way.leads_to into.1)) into.2
      ]

  pub enter_leads : LeadsAreClosed map part → EnterLeads
  enter_leads closed i d lt = edge_enters closed (get_or edges i d) ((ways.exact (get_or edges i d)).0 (Contains-get_or edges i d lt))

  pub leads_closed : EnterLeads → LeadsAreClosed map part
  leads_closed all = λ k to end h.
      let place = place_of_lead part.leads end.lead end.listed in
      let found = reached_owner map part.leads lawful leads blocks.runs.items are.runs (owner_by number blocks.owners.places.items) are.owned place.0 end.lead k place.1 end.ends.reaches in
      let lies = found.1 in
      let way = some_way map (IsReturn part.returns) h in
      let edge : Edge = record { from = lies.start; to = to; kind = way.kind } in
      All-contains (λ (e : Edge). IsLead part.leads e.to) edges edge all
      ((ways.exact edge).1 (record {
        last = k;
        from = lead_at part.leads found.0 lies.start lies.place;
        ends = record { runs = lies.runs; stops = inl end.ends.ends };
        leads_to = way.leads_to;
      }))
