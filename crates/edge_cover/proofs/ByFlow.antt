-- Where control follows the flow of an instruction, its move is covered.
use Rattle.std.proofs.Common.{◌≡◌, ℕ, ◌+◌, ◌<◌, ◌≤◌, ◌⊎◌, Bool, true, false, List, [], ◌∷◌, Option, Some, None, Contains, ltb, eqb, refl, sym, ap, ◌∙◌, subst, inl, inr, ⊎_elim, arith}
use Rattle.std.specs.List.{find}
use Rattle.std.proofs.lemmas.Bool.{lt-ltb, ltb-true, eq-eqb, eqb-true, cond-true, cond-false, cases_Bool, and_parts}
use Rattle.std.proofs.lemmas.Option.{same_Some}
use Rattle.cfg_model.specs.declared.flow.Flow.{Flow}
use Rattle.cfg_model.specs.declared.flow.Flow.TheVariants as flows
use Rattle.cfg_model.specs.declared.graph.Block.{Block}
use Rattle.cfg_model.specs.declared.graph.Edge.{Edge}
use Rattle.cfg_model.specs.declared.graph.EdgeKind.{EdgeKind}
use Rattle.cfg_model.specs.declared.graph.EdgeKind.TheVariants as kinds
use Rattle.cfg_model.specs.Program.Instructions.{InstructionMap, IsLawful, flow_at, length_at, targets_at}
use Rattle.cfg_model.specs.Program.Chain.{GoesOnTo, IsTerminator, EndsChain}
use Rattle.cfg_model.specs.Program.Status.{Returns}
use Rattle.cfg_model.specs.Program.Successors.{Calls}
use Rattle.cfg_model.specs.Graph.Leader.{IsLeader}
use Rattle.cfg_model.specs.Graph.Block.{RunsTo, IsLastOf, IsBlock, end_kind}
use Rattle.cfg_model.specs.Graph.Edge.{LeadsTo, IsEdge}
use Rattle.cfg_model.specs.Graph.Graph.{IsOutline}
use Rattle.cfg_model.specs.Graph.Places.{LiesIn}
use Rattle.cfg_model.proofs.Program.ChainFacts.{chain_up, one_next}
use Rattle.cfg_model.proofs.Graphs.Lists.{Contains-cons_cases, Contains-none, Contains-here, Contains-later}
use Rattle.cfg_model.proofs.Graphs.LeaderFacts.{has_length, HasLength}
use Rattle.cfg_model.proofs.Graphs.OneBlock.{not_both, one_last}
use Rattle.edge_cover.specs.declared.moves.Move.TheVariants.{Along}
use Rattle.edge_cover.specs.Move.{joins, along, move_in}
use Rattle.edge_cover.specs.Covered.{MayBeLeft, IsCovered}
use Rattle.edge_cover.proofs.Lies.{chain_of, run_on, last_below}

-- control goes on to this address by the flow of an instruction with these kept targets
abbrev pub Follows : List ℕ → ℕ → Flow → Type 0
Follows kept to (flows.Straight next) = to ≡ next
Follows kept to (flows.Branch (Some taken) (Some fall)) = (to ≡ taken) ⊎ (to ≡ fall)
Follows kept to (flows.Jump target) = to ≡ target
Follows kept to (flows.Call target fall) = to ≡ target
Follows kept to (flows.Table entries true false) = Contains kept to
Follows kept to _ = Unit {0}

-- a search in a list that has what is looked for
record IsFound {X : Type 0} (p : X → Bool) (xs : List X) : Type 0 where
  item : X
  found : find p xs ≡ Some item
  passes : p item ≡ true
  listed : Contains xs item

find_listed : {X : Type 0} (p : X → Bool) (xs : List X) (x : X) → Contains xs x → p x ≡ true → IsFound p xs
find_listed p [] x c h = absurd (Contains-none x c)
find_listed p (y ∷ ys) x c h =
    elim (cases_Bool (p y)) [
      | inl met ↦ record { item = y; found = cond-true (p y) (Some y) (find p ys) met; passes = met; listed = Contains-here y ys }
      | inr unmet ↦
          let later : Contains ys x = ⊎_elim (λ e. absurd (clash (sym unmet ∙ ap p e ∙ h))) (λ more. more) (Contains-cons_cases y ys x c) in
          let rest : IsFound p ys = find_listed p ys x later h in
          record {
            item = rest.item;
            found = cond-false (p y) (Some y) (find p ys) unmet ∙ rest.found;
            passes = rest.passes;
            listed = Contains-later y ys rest.item rest.listed;
          }
    ]
  where
    clash : false ≡ true → ⊥
    clash e = cc

module _ (map : InstructionMap) (seeds : List ℕ) (blocks : List Block) (edges : List Edge) (lawful : IsLawful map) (outline : IsOutline map seeds blocks edges) (block : Block) (listed : Contains blocks block) (pc bytes : ℕ) (lies : LiesIn map seeds block pc) (long : length_at map pc ≡ Some bytes) where
  is : IsBlock map seeds block
  is = outline.all_blocks.sound block listed

  ends_here : {k : ℕ} → RunsTo map (IsLeader map seeds) pc k → IsTerminator map pc → k ≡ pc
  ends_here RunsTo.here ends = refl
  ends_here (RunsTo.on {next = next} goes none rest) ends = absurd (not_both map pc next goes ends)

  -- where pc is the last address of the block, that ends after it
  end_is : is.0 ≡ pc → block.end ≡ pc + bytes
  end_is last =
      is.1.of.ends.2 ∙ ap (λ k. k + is.1.of.ends.0) last
      ∙ ap (λ n. pc + n) (same_Some is.1.of.ends.0 bytes (sym is.1.of.ends.1 ∙ ap (length_at map) last ∙ long))

  kind_is : is.0 ≡ pc → (flow : Flow) → flow_at map pc ≡ Some flow → block.kind ≡ end_kind flow
  kind_is last flow at =
      is.1.of.kind.2 ∙ ap end_kind (same_Some is.1.of.kind.0 flow (sym is.1.of.kind.1 ∙ ap (flow_at map) last ∙ at))

  at_end : is.0 ≡ pc → (to : ℕ) → move_in block edges (pc + bytes) to ≡ along block (find (joins block.start to) edges)
  at_end last to = cond-false (ltb (pc + bytes) block.end) _ _ (not_below (pc + bytes) block.end (end_is last))
    where
      not_below : (a b : ℕ) → b ≡ a → ltb a b ≡ false
      not_below a b e = elim (cases_Bool (ltb a b)) [ inl less ↦ absurd (let h : a < b = ltb-true a b less in omega arith) | inr unmet ↦ unmet ]

  -- an edge of the outline for each way on from the last address
  edge_to : is.0 ≡ pc → (to : ℕ) (kind : EdgeKind) → LeadsTo map (Returns map) pc to kind → IsFound (joins block.start to) edges
  edge_to last to kind leads =
      find_listed (joins block.start to) edges edge (outline.all_edges.complete edge there) (rw (eq-eqb block.start block.start refl, eq-eqb to to refl) refl)
    where
      edge : Edge
      edge = record { from = block.start; to = to; kind = kind }

      there : IsEdge map seeds edge
      there = record { last = pc; from = is.1.leader; ends = subst (IsLastOf map (IsLeader map seeds) block.start) last is.1.last; leads = leads }

  -- the move along it
  goes_along : is.0 ≡ pc → (to : ℕ) (kind : EdgeKind) → LeadsTo map (Returns map) pc to kind → IsCovered (move_in block edges (pc + bytes) to)
  goes_along last to kind leads =
      let found = edge_to last to kind leads in
      subst IsCovered (sym (at_end last to ∙ ap (along block) found.found)) tt

  -- any move out of a block that may be left
  goes_out : is.0 ≡ pc → (to : ℕ) → MayBeLeft block.kind → IsCovered (move_in block edges (pc + bytes) to)
  goes_out last to left = subst IsCovered (sym (at_end last to)) (either (find (joins block.start to) edges))
    where
      either : (o : Option Edge) → IsCovered (along block o)
      either None = left
      either (Some edge) = tt

  -- straight on: within the block, or along the edge to the next
  straight_on : {k : ℕ} → RunsTo map (IsLeader map seeds) pc k → is.0 ≡ k → (next : ℕ) → GoesOnTo map pc next → next ≡ pc + bytes → IsCovered (move_in block edges (pc + bytes) next)
  straight_on RunsTo.here last next goes behind = goes_along last next kinds.Fall (LeadsTo.straight goes)
  straight_on (RunsTo.on {next = other} {k = k} way none rest) last next goes behind =
      let up : other ≤ k = chain_up lawful (chain_of rest) in
      let same : next ≡ other = one_next map pc next other goes way in
      let below : ltb (pc + bytes) block.end ≡ true = lt-ltb (pc + bytes) block.end (below_end up same) in
      subst IsCovered (sym (cond-true (ltb (pc + bytes) block.end) _ _ below ∙ cond-true (eqb next (pc + bytes)) _ _ (eq-eqb next (pc + bytes) behind))) tt
    where
      below_end : other ≤ k → next ≡ other → pc + bytes < block.end
      below_end up same = omega (arith, last_below map seeds block is lawful, last, same, behind)

  behind_is : (next : ℕ) → GoesOnTo map pc next → next ≡ pc + bytes
  behind_is next goes =
      let length : HasLength map pc next = has_length map lawful pc next goes in
      length.behind ∙ ap (λ n. pc + n) (same_Some length.bytes bytes (sym length.is ∙ long))

  run : RunsTo map (IsLeader map seeds) pc is.0
  run = run_on lies is.1.last.runs is.1.last.stops

  last_by : (flow : Flow) → flow_at map pc ≡ Some flow → EndsChain (Some flow) → is.0 ≡ pc
  last_by flow at ends = ends_here run (subst EndsChain (sym at) ends)

  left_by : (flow : Flow) (to : ℕ) → flow_at map pc ≡ Some flow → EndsChain (Some flow) → MayBeLeft (end_kind flow) → IsCovered (move_in block edges (pc + bytes) to)
  left_by flow to at ends left = goes_out (last_by flow at ends) to (subst MayBeLeft (sym (kind_is (last_by flow at ends) flow at)) left)

  -- the move is covered wherever control follows the flow
  pub covered_by : (flow : Flow) → flow_at map pc ≡ Some flow → (to : ℕ) → Follows (targets_at map pc) to flow → IsCovered (move_in block edges (pc + bytes) to)
  covered_by (flows.Straight next) at to follows =
      subst (λ n. IsCovered (move_in block edges (pc + bytes) n)) (sym follows) (straight_on run refl next at (behind_is next at))
  covered_by (flows.Branch (Some taken) (Some fall)) at to follows =
      let last = last_by (flows.Branch (Some taken) (Some fall)) at tt in
      ⊎_elim
      (λ is_taken. goes_along last to kinds.Taken (LeadsTo.taken (at ∙ ap (λ n. Some (flows.Branch (Some n) (Some fall))) (sym is_taken))))
      (λ falls. goes_along last to kinds.Fall (LeadsTo.not_taken (at ∙ ap (λ n. Some (flows.Branch (Some taken) (Some n))) (sym falls))))
      follows
  covered_by (flows.Branch (Some taken) None) at to follows = left_by (flows.Branch (Some taken) None) to at tt tt
  covered_by (flows.Branch None fall) at to follows = left_by (flows.Branch None fall) to at tt tt
  covered_by (flows.Jump target) at to follows =
      goes_along (last_by (flows.Jump target) at tt) to kinds.Jump (LeadsTo.jump (at ∙ ap (λ n. Some (flows.Jump n)) (sym follows)))
  covered_by (flows.Call target fall) at to follows =
      goes_along (last_by (flows.Call target fall) at tt) to kinds.Call (LeadsTo.call (at ∙ ap (λ n. Some (flows.Call n fall)) (sym follows)))
  covered_by (flows.IndirectCall fall) at to follows = left_by (flows.IndirectCall fall) to at tt tt
  covered_by (flows.Table entries full true) at to follows = left_by (flows.Table entries full true) to at tt tt
  covered_by (flows.Table entries false false) at to follows = left_by (flows.Table entries false false) to at tt tt
  covered_by (flows.Table entries true false) at to follows =
      goes_along (last_by (flows.Table entries true false) at tt) to kinds.Table (LeadsTo.table at follows)
  covered_by flows.Return at to follows = left_by flows.Return to at tt tt
  covered_by flows.Unknown at to follows = left_by flows.Unknown to at tt tt
  covered_by flows.Stop at to follows = left_by flows.Stop to at tt tt

  -- ---- a jump through a table

  table_kind : {k to : ℕ} {kind : EdgeKind} (entries : ℕ) (full is_open : Bool) → LeadsTo map (Returns map) k to kind → flow_at map k ≡ Some (flows.Table entries full is_open) → kind ≡ kinds.Table
  table_kind {k} {to} entries full is_open (LeadsTo.straight goes) at = let e : ◌≡◌ {A = Option Flow} (Some (flows.Straight to)) (Some (flows.Table entries full is_open)) = sym goes ∙ at in cc
  table_kind {k} {to} entries full is_open (LeadsTo.not_taken {taken = taken} goes) at = let e : ◌≡◌ {A = Option Flow} (Some (flows.Branch taken (Some to))) (Some (flows.Table entries full is_open)) = sym goes ∙ at in cc
  table_kind {k} {to} entries full is_open (LeadsTo.taken {fall = fall} goes) at = let e : ◌≡◌ {A = Option Flow} (Some (flows.Branch (Some to) fall)) (Some (flows.Table entries full is_open)) = sym goes ∙ at in cc
  table_kind {k} {to} entries full is_open (LeadsTo.jump goes) at = let e : ◌≡◌ {A = Option Flow} (Some (flows.Jump to)) (Some (flows.Table entries full is_open)) = sym goes ∙ at in cc
  table_kind {k} {to} entries full is_open (LeadsTo.call {fall = fall} goes) at = let e : ◌≡◌ {A = Option Flow} (Some (flows.Call to fall)) (Some (flows.Table entries full is_open)) = sym goes ∙ at in cc
  table_kind {k} {to} entries full is_open (LeadsTo.after_indirect goes) at = let e : ◌≡◌ {A = Option Flow} (Some (flows.IndirectCall (Some to))) (Some (flows.Table entries full is_open)) = sym goes ∙ at in cc
  table_kind {k} {to} entries full is_open (LeadsTo.after_call {target = target} goes returns) at = let e : ◌≡◌ {A = Option Flow} (Some (flows.Call target (Some to))) (Some (flows.Table entries full is_open)) = sym goes ∙ at in cc
  table_kind entries full is_open (LeadsTo.table goes kept) at = refl
  table_kind entries full is_open (LeadsTo.landing calls kept) at = absurd (subst Calls at calls)

  -- where the block ends with a jump through a table, a step to a kept target goes along an edge of that kind
  pub along_table : (entries : ℕ) (full is_open : Bool) → flow_at map pc ≡ Some (flows.Table entries full is_open) → (to : ℕ) → Contains (targets_at map pc) to
      → move_in block edges (pc + bytes) to ≡ Along kinds.Table
  along_table entries full is_open at to kept =
      let last = last_by (flows.Table entries full is_open) at tt in
      let found = edge_to last to kinds.Table (LeadsTo.table at kept) in
      let edge = outline.all_edges.sound found.item found.listed in
      let start : found.item.from ≡ block.start = (joined block.start to found.item found.passes).0 in
      let ends : edge.last ≡ pc = one_last (subst (λ s. IsLastOf map (IsLeader map seeds) s edge.last) start edge.ends) is.1.last ∙ last in
      let kind : found.item.kind ≡ kinds.Table = table_kind entries full is_open (subst (λ k. LeadsTo map (Returns map) k found.item.to found.item.kind) ends edge.leads) at in
      at_end last to ∙ ap (along block) found.found ∙ ap (λ (k : EdgeKind). Along k) kind
    where
      joined : (from to : ℕ) (e : Edge) → joins from to e ≡ true → (e.from ≡ from) × (e.to ≡ to)
      joined from to e h = let both = and_parts (eqb e.from from) (eqb e.to to) h in (eqb-true e.from from both.0, eqb-true e.to to both.1)
