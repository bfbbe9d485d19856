-- The edges of a block, by the flow of its last instruction.
use Rattle.std.proofs.Common.{◌≡◌, ℕ, ◌⊎◌, List, [], Option, Some, None, option_to_list, refl, sym, ap, ◌∙◌, subst, inl, inr, ⊎_elim}
use Rattle.std.specs.List.{Contains}
use Rattle.cfg_model.specs.declared.flow.Flow.{Flow}
use Rattle.cfg_model.specs.declared.flow.Flow.TheVariants.{Straight, Branch, Jump, Call, IndirectCall, Table, Return, Unknown, Stop}
use Rattle.cfg_model.specs.declared.graph.Edge.{Edge}
use Rattle.cfg_model.specs.declared.graph.EdgeKind.{EdgeKind}
use Rattle.cfg_model.specs.declared.graph.EdgeKind.TheVariants as kinds
use Rattle.cfg_model.specs.Program.Instructions.{InstructionMap, flow_at, targets_at}
use Rattle.cfg_model.specs.Program.Successors.{IsCall, Calls}
use Rattle.cfg_model.specs.Graph.Edge.{LeadsTo, Leaves}
use Rattle.cfg_model.specs.Graph.Listing.{Gains}
use Rattle.cfg_model.specs.Inner.Ways.{edge_to, IsEdgeTo}
use Rattle.cfg_model.proofs.Program.Listed.{none_in, head_in, in_cases}
use Rattle.cfg_model.proofs.Program.Landing.{may_land}
use Rattle.cfg_model.proofs.Graphs.Gaining.{Gains-same, Gains-none}

module _ (map : InstructionMap) (MayReturn : ℕ → Type 0) (s k : ℕ) where
  -- the edges from s to the landing pad of a call at k
  abbrev pub ByLanding : Edge → Type 0
  ByLanding edge = (to : ℕ) × Contains (targets_at map k) to × (edge ≡ edge_to s kinds.Landing to)

  -- and those to what it calls, and where that returns to
  abbrev pub ByCall : ℕ → Option ℕ → Edge → Type 0
  ByCall target fall edge = (edge ≡ edge_to s kinds.Call target) ⊎ (MayReturn target × IsEdgeTo s kinds.After fall edge)

  -- the edges from s that a flow at k gives
  abbrev pub By : Option Flow → Edge → Type 0
  By None edge = ⊥
  By (Some (Straight next)) edge = edge ≡ edge_to s kinds.Fall next
  By (Some (Branch taken fall)) edge = IsEdgeTo s kinds.Taken taken edge ⊎ IsEdgeTo s kinds.Fall fall edge
  By (Some (Jump target)) edge = edge ≡ edge_to s kinds.Jump target
  By (Some (Call target fall)) edge = ByCall target fall edge ⊎ ByLanding edge
  By (Some (IndirectCall fall)) edge = IsEdgeTo s kinds.After fall edge ⊎ ByLanding edge
  By (Some (Table entries full is_open)) edge = (to : ℕ) × Contains (targets_at map k) to × (edge ≡ edge_to s kinds.Table to)
  By (Some Return) edge = ⊥
  By (Some Unknown) edge = ⊥
  By (Some Stop) edge = ⊥

  -- each of them leaves s by a way on from k

  leads_as : (to : ℕ) (kind : EdgeKind) (edge : Edge) → edge ≡ edge_to s kind to → LeadsTo map MayReturn k to kind → Leaves map MayReturn s k edge
  leads_as to kind edge is leads = subst (Leaves map MayReturn s k) (sym is) (record { from = refl; leads = leads })

  leads_some : (o : Option ℕ) (kind : EdgeKind) (edge : Edge) → ((to : ℕ) → o ≡ Some to → LeadsTo map MayReturn k to kind) → IsEdgeTo s kind o edge → Leaves map MayReturn s k edge
  leads_some None kind edge leads h = absurd h
  leads_some (Some to) kind edge leads h = leads_as to kind edge h (leads to refl)

  branch_leads : (taken fall : Option ℕ) (edge : Edge) → flow_at map k ≡ Some (Branch taken fall) → IsEdgeTo s kinds.Taken taken edge ⊎ IsEdgeTo s kinds.Fall fall edge → Leaves map MayReturn s k edge
  branch_leads taken fall edge h way =
      ⊎_elim
      (λ t. leads_some taken kinds.Taken edge (λ to e. LeadsTo.taken (h ∙ ap (λ o. Some (Branch o fall)) e)) t)
      (λ f. leads_some fall kinds.Fall edge (λ to e. LeadsTo.not_taken (h ∙ ap (λ o. Some (Branch taken o)) e)) f)
      way

  call_leads : (target : ℕ) (fall : Option ℕ) (edge : Edge) → IsCall map k target fall → ByCall target fall edge → Leaves map MayReturn s k edge
  call_leads target fall edge h way =
      ⊎_elim
      (λ is. leads_as target kinds.Call edge is (LeadsTo.call h))
      (λ past. leads_some fall kinds.After edge (λ to e. LeadsTo.after_call (h ∙ ap (λ o. Some (Call target o)) e) past.0) past.1)
      way

  landing_leads : (edge : Edge) (flow : Flow) → flow_at map k ≡ Some flow → Calls (Some flow) → ByLanding edge → Leaves map MayReturn s k edge
  landing_leads edge flow h calls way = leads_as way.0 kinds.Landing edge way.2 (LeadsTo.landing (may_land map k flow h calls) way.1)

  by_leaves : (edge : Edge) (o : Option Flow) → flow_at map k ≡ o → By o edge → Leaves map MayReturn s k edge
  by_leaves edge None h way = absurd way
  by_leaves edge (Some (Straight next)) h way = leads_as next kinds.Fall edge way (LeadsTo.straight h)
  by_leaves edge (Some (Branch taken fall)) h way = branch_leads taken fall edge h way
  by_leaves edge (Some (Jump target)) h way = leads_as target kinds.Jump edge way (LeadsTo.jump h)
  by_leaves edge (Some (Call target fall)) h way =
      ⊎_elim (λ goes. call_leads target fall edge h goes) (λ lands. landing_leads edge (Call target fall) h tt lands) way
  by_leaves edge (Some (IndirectCall fall)) h way =
      ⊎_elim
      (λ falls. leads_some fall kinds.After edge (λ to e. LeadsTo.after_indirect (h ∙ ap (λ o. Some (IndirectCall o)) e)) falls)
      (λ lands. landing_leads edge (IndirectCall fall) h tt lands)
      way
  by_leaves edge (Some (Table entries full is_open)) h way = leads_as way.0 kinds.Table edge way.2 (LeadsTo.table h way.1)
  by_leaves edge (Some Return) h way = absurd way
  by_leaves edge (Some Unknown) h way = absurd way
  by_leaves edge (Some Stop) h way = absurd way

-- and there are no others

landing_by : (map : InstructionMap) (MayReturn : ℕ → Type 0) (s k to : ℕ) (o : Option Flow) → Calls o → Contains (targets_at map k) to → By map MayReturn s k o (edge_to s kinds.Landing to)
landing_by map MayReturn s k to None calls among = absurd calls
landing_by map MayReturn s k to (Some (Straight next)) calls among = absurd calls
landing_by map MayReturn s k to (Some (Branch taken fall)) calls among = absurd calls
landing_by map MayReturn s k to (Some (Jump target)) calls among = absurd calls
landing_by map MayReturn s k to (Some (Call target fall)) calls among = inr (to, among, refl)
landing_by map MayReturn s k to (Some (IndirectCall fall)) calls among = inr (to, among, refl)
landing_by map MayReturn s k to (Some (Table entries full is_open)) calls among = absurd calls
landing_by map MayReturn s k to (Some Return) calls among = absurd calls
landing_by map MayReturn s k to (Some Unknown) calls among = absurd calls
landing_by map MayReturn s k to (Some Stop) calls among = absurd calls

by_at : (map : InstructionMap) (MayReturn : ℕ → Type 0) (s k : ℕ) (o : Option Flow) (edge : Edge) (flow : Flow) → flow_at map k ≡ o → flow_at map k ≡ Some flow → By map MayReturn s k (Some flow) edge → By map MayReturn s k o edge
by_at map MayReturn s k o edge flow at h way = subst (λ (x : Option Flow). By map MayReturn s k x edge) (sym h ∙ at) way

way_by : (map : InstructionMap) (MayReturn : ℕ → Type 0) (s : ℕ) (o : Option Flow) {k to : ℕ} {kind : EdgeKind} → flow_at map k ≡ o → LeadsTo map MayReturn k to kind → By map MayReturn s k o (edge_to s kind to)
way_by map MayReturn s o at (LeadsTo.straight {k = k} {to = to} h) = by_at map MayReturn s k o (edge_to s kinds.Fall to) (Straight to) at h refl
way_by map MayReturn s o at (LeadsTo.not_taken {k = k} {to = to} {taken = taken} h) = by_at map MayReturn s k o (edge_to s kinds.Fall to) (Branch taken (Some to)) at h (inr refl)
way_by map MayReturn s o at (LeadsTo.taken {k = k} {to = to} {fall = fall} h) = by_at map MayReturn s k o (edge_to s kinds.Taken to) (Branch (Some to) fall) at h (inl refl)
way_by map MayReturn s o at (LeadsTo.jump {k = k} {to = to} h) = by_at map MayReturn s k o (edge_to s kinds.Jump to) (Jump to) at h refl
way_by map MayReturn s o at (LeadsTo.call {k = k} {to = to} {fall = fall} h) = by_at map MayReturn s k o (edge_to s kinds.Call to) (Call to fall) at h (inl (inl refl))
way_by map MayReturn s o at (LeadsTo.after_indirect {k = k} {to = to} h) = by_at map MayReturn s k o (edge_to s kinds.After to) (IndirectCall (Some to)) at h (inl refl)
way_by map MayReturn s o at (LeadsTo.after_call {k = k} {target = target} {to = to} h back) = by_at map MayReturn s k o (edge_to s kinds.After to) (Call target (Some to)) at h (inl (inr (back, refl)))
way_by map MayReturn s o at (LeadsTo.table {k = k} {to = to} {entries = entries} {full = full} {is_open = is_open} h c) = by_at map MayReturn s k o (edge_to s kinds.Table to) (Table entries full is_open) at h (to, c, refl)
way_by map MayReturn s o at (LeadsTo.landing {k = k} {to = to} calls c) = landing_by map MayReturn s k to o (subst Calls at calls) c

leaves_by : (map : InstructionMap) (MayReturn : ℕ → Type 0) (s k : ℕ) (o : Option Flow) → flow_at map k ≡ o → (edge : Edge) → Leaves map MayReturn s k edge → By map MayReturn s k o edge
leaves_by map MayReturn s k o at edge leaves = subst (λ from. By map MayReturn s k o (record { from = from; to = edge.to; kind = edge.kind })) (sym leaves.from) (way_by map MayReturn s o at leaves.leads)

-- so a list that gains the edges of the flow gains those that leave
pub gains_by : (map : InstructionMap) (MayReturn : ℕ → Type 0) (s k : ℕ) (o : Option Flow) (old new : List Edge) → flow_at map k ≡ o → Gains old new (By map MayReturn s k o) → Gains old new (Leaves map MayReturn s k)
gains_by map MayReturn s k o old new at gains = Gains-same old new (By map MayReturn s k o) (Leaves map MayReturn s k) (λ edge way. by_leaves map MayReturn s k edge o at way) (λ edge leaves. leaves_by map MayReturn s k o at edge leaves) gains

-- and one of a flow that leads nowhere gains none
pub gains_none : (map : InstructionMap) (MayReturn : ℕ → Type 0) (s k : ℕ) (o : Option Flow) (edges : List Edge) → flow_at map k ≡ o → ((edge : Edge) → By map MayReturn s k o edge → ⊥) → Gains edges edges (Leaves map MayReturn s k)
gains_none map MayReturn s k o edges at none = Gains-none edges (Leaves map MayReturn s k) (λ edge leaves. none edge (leaves_by map MayReturn s k o at edge leaves))

-- where the same callees return, the same edges leave

pub leads_same : {map : InstructionMap} {Back Other : ℕ → Type 0} {k to : ℕ} {kind : EdgeKind} → ((target : ℕ) (fall : Option ℕ) → IsCall map k target fall → Back target → Other target) → LeadsTo map Back k to kind → LeadsTo map Other k to kind
leads_same same (LeadsTo.straight h) = LeadsTo.straight h
leads_same same (LeadsTo.not_taken h) = LeadsTo.not_taken h
leads_same same (LeadsTo.taken h) = LeadsTo.taken h
leads_same same (LeadsTo.jump h) = LeadsTo.jump h
leads_same same (LeadsTo.call h) = LeadsTo.call h
leads_same same (LeadsTo.after_indirect h) = LeadsTo.after_indirect h
leads_same same (LeadsTo.after_call {target = target} {to = to} h back) = LeadsTo.after_call h (same target (Some to) h back)
leads_same same (LeadsTo.table h c) = LeadsTo.table h c
leads_same same (LeadsTo.landing calls c) = LeadsTo.landing calls c

-- a call that lands nowhere, or at one address, gains the edges to that
pub gains_landing : (s : ℕ) (o : Option ℕ) (pads : List ℕ) (old new : List Edge) → pads ≡ option_to_list o → Gains old new (IsEdgeTo s kinds.Landing o) → Gains old new (λ edge. (to : ℕ) × Contains pads to × (edge ≡ edge_to s kinds.Landing to))
gains_landing s o pads old new is gains =
    subst (λ ps. Gains old new (λ edge. (to : ℕ) × Contains ps to × (edge ≡ edge_to s kinds.Landing to))) (sym is)
    (Gains-same old new (IsEdgeTo s kinds.Landing o) (λ edge. (to : ℕ) × Contains (option_to_list o) to × (edge ≡ edge_to s kinds.Landing to)) (there o) (back o) gains)
  where
    there : (p : Option ℕ) (edge : Edge) → IsEdgeTo s kinds.Landing p edge → (to : ℕ) × Contains (option_to_list p) to × (edge ≡ edge_to s kinds.Landing to)
    there None edge way = absurd way
    there (Some pad) edge way = (pad, head_in pad [], way)

    back : (p : Option ℕ) (edge : Edge) → ((to : ℕ) × Contains (option_to_list p) to × (edge ≡ edge_to s kinds.Landing to)) → IsEdgeTo s kinds.Landing p edge
    back None edge way = absurd (none_in way.0 way.1)
    back (Some pad) edge way = ⊎_elim (λ same. subst (λ to. edge ≡ edge_to s kinds.Landing to) (sym same) way.2) (λ none. absurd (none_in way.0 none)) (in_cases pad [] way.0 way.1)
