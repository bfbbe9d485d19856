-- The move of an orderly step, in the block that it is made in.
use Rattle.std.proofs.Common.{◌≡◌, ℕ, ◌+◌, ◌<◌, ◌≤◌, Bool, true, false, List, Option, Some, None, Contains, ltb, eqb, refl, sym, ap, ◌∙◌, subst, inl, inr, arith}
use Rattle.std.specs.List.{find, list_any}
use Rattle.std.proofs.lemmas.Bool.{lt-ltb, ltb-true, eq-eqb, cond-true, cond-false, cases_Bool, and_from, both_ways}
use Rattle.std.proofs.lemmas.Option.{same_Some}
use Rattle.elf_image.proofs.Finds.{find-cases, any-contained}
use Rattle.cfg_model.specs.declared.flow.Flow.{Flow}
use Rattle.cfg_model.specs.declared.flow.Flow.TheVariants as flows
use Rattle.cfg_model.specs.declared.graph.Block.{Block}
use Rattle.cfg_model.specs.declared.graph.Edge.{Edge}
use Rattle.cfg_model.specs.declared.graph.EdgeKind.{EdgeKind}
use Rattle.cfg_model.specs.declared.graph.EdgeKind.TheVariants as kinds
use Rattle.cfg_model.specs.declared.graph.EndKind.{EndKind}
use Rattle.cfg_model.specs.declared.graph.EndKind.TheVariants as ends
use Rattle.cfg_model.specs.declared.graph.Graph.{Graph}
use Rattle.cfg_model.specs.Program.Instructions.{InstructionMap, IsLawful, flow_at, length_at, targets_at}
use Rattle.cfg_model.specs.Program.Chain.{GoesOnTo, IsTerminator, EndsChain}
use Rattle.cfg_model.specs.Program.Status.{Returns}
use Rattle.cfg_model.specs.Graph.Leader.{IsLeader}
use Rattle.cfg_model.specs.Graph.Block.{RunsTo, IsLastOf, IsBlock, end_kind}
use Rattle.cfg_model.specs.Graph.Edge.{LeadsTo, IsEdge}
use Rattle.cfg_model.specs.Graph.Function.{IsMarkedEdge}
use Rattle.cfg_model.specs.Graph.Graph.{IsGraph}
use Rattle.cfg_model.specs.Graph.Places.{LiesIn}
use Rattle.cfg_model.specs.Inner.Ways.{edge_to}
use Rattle.cfg_model.proofs.Program.ChainFacts.{chain_up, one_next}
use Rattle.cfg_model.proofs.Graphs.LeaderFacts.{has_length, HasLength}
use Rattle.cfg_model.proofs.Graphs.OneBlock.{not_both}
use Rattle.edge_cover.specs.Move.{joins, along, move_in}
use Rattle.edge_cover.proofs.Lies.{chain_of, run_on, last_below}
use Rattle.run_laws.specs.Frames.{Frame}
use Rattle.run_laws.specs.Orderly.{GoesBySelf, MayUnwind, IsOrderly}
use Rattle.run_laws.specs.Whole.{MayBeLeftTo, IsOrderlyMove}
use Rattle.run_laws.proofs.Goes.{GoesTo}

-- a jump through a table goes to a kept target
module _ (map : InstructionMap) (graph : Graph) (from to entries : ℕ) (full is_open : Bool) (at : flow_at map from ≡ Some (flows.Table entries full is_open)) where
  kept_by_self : (self : Flow) → flow_at map from ≡ Some self → GoesBySelf self → GoesBySelf (flows.Table entries full is_open)
  kept_by_self self is goes = subst GoesBySelf (same_Some self (flows.Table entries full is_open) (sym is ∙ at)) goes

  other_flow : (other : Flow) → flow_at map from ≡ Some other → other ≡ flows.Table entries full is_open
  other_flow other is = same_Some other (flows.Table entries full is_open) (sym is ∙ at)

  orderly_table : {before after : List Frame} → IsOrderly map graph from to before after → (GoesBySelf (flows.Table entries full is_open) → Contains (targets_at map from) to) → Contains (targets_at map from) to
  orderly_table (IsOrderly.onward {f = self} is goes) whole = whole (kept_by_self self is goes)
  orderly_table (IsOrderly.by_table is kept) whole = kept
  orderly_table (IsOrderly.by_register is enters) whole = absurd (let h : flows.Unknown ≡ flows.Table entries full is_open = other_flow flows.Unknown is in cc)
  orderly_table (IsOrderly.calls {target = target} {fall = fall} is) whole = absurd (let h : flows.Call target fall ≡ flows.Table entries full is_open = other_flow (flows.Call target fall) is in cc)
  orderly_table (IsOrderly.calls_by_register {fall = fall} is enters) whole = absurd (let h : flows.IndirectCall fall ≡ flows.Table entries full is_open = other_flow (flows.IndirectCall fall) is in cc)
  orderly_table (IsOrderly.returns taken) whole = absurd (let h : flows.Return ≡ flows.Table entries full is_open = other_flow flows.Return taken.returns in cc)
  orderly_table (IsOrderly.unwinds thrown) whole = absurd (subst MayUnwind at thrown.jumps)

-- a jump through a full table goes to one by itself
full_kept : (map : InstructionMap) (kept : List ℕ) (to entries : ℕ) (full is_open : Bool) → GoesTo map kept to (flows.Table entries full is_open) → GoesBySelf (flows.Table entries full is_open) → Contains kept to
full_kept map kept to entries true false goes self = goes
full_kept map kept to entries true true goes self = absurd self
full_kept map kept to entries false is_open goes self = absurd self

module _ (map : InstructionMap) (seeds : List ℕ) (entry : ℕ) (graph : Graph) (lawful : IsLawful map) (is_graph : IsGraph map seeds entry graph) where
  -- an edge of the program is one of the graph, marked or not
  edge_there : (edge : Edge) → IsEdge map seeds edge → list_any (joins edge.from edge.to) graph.edges ≡ false → ⊥
  edge_there edge is none = by edge.kind refl
    where
      clash : (e : Edge) → IsMarkedEdge map seeds e → e.from ≡ edge.from → e.to ≡ edge.to → ⊥
      clash e marked starts ends_there =
          both_ways (list_any (joins edge.from edge.to) graph.edges) none
          (any-contained (joins edge.from edge.to) graph.edges e (is_graph.edges.complete e marked) (and_from _ _ (eq-eqb e.from edge.from starts) (eq-eqb e.to edge.to ends_there)))

      by : (kind : EdgeKind) → edge.kind ≡ kind → ⊥
      by kinds.Jump e = clash edge (IsMarkedEdge.jump is e (λ tail. clash (record edge { kind = kinds.Tail }) (IsMarkedEdge.tail is e tail) refl refl)) refl refl
      by kind e = clash edge (IsMarkedEdge.other is (λ jump. cc)) refl refl

  module _ (block : Block) (listed : Contains graph.blocks block) (pc bytes to : ℕ) (lies : LiesIn map seeds block pc) (long : length_at map pc ≡ Some bytes) where
    is : IsBlock map seeds block
    is = is_graph.blocks.sound block listed

    ends_here : {k : ℕ} → RunsTo map (IsLeader map seeds) pc k → IsTerminator map pc → k ≡ pc
    ends_here RunsTo.here ends = refl
    ends_here (RunsTo.on {next = next} goes none rest) ends = absurd (not_both map pc next goes ends)

    run : RunsTo map (IsLeader map seeds) pc is.0
    run = run_on lies is.1.last.runs is.1.last.stops

    last_by : (flow : Flow) → flow_at map pc ≡ Some flow → EndsChain (Some flow) → is.0 ≡ pc
    last_by flow at ends = ends_here run (subst EndsChain (sym at) ends)

    end_is : is.0 ≡ pc → block.end ≡ pc + bytes
    end_is last =
        is.1.of.ends.2 ∙ ap (λ k. k + is.1.of.ends.0) last
        ∙ ap (λ n. pc + n) (same_Some is.1.of.ends.0 bytes (sym is.1.of.ends.1 ∙ ap (length_at map) last ∙ long))

    kind_is : is.0 ≡ pc → (flow : Flow) → flow_at map pc ≡ Some flow → block.kind ≡ end_kind flow
    kind_is last flow at =
        is.1.of.kind.2 ∙ ap end_kind (same_Some is.1.of.kind.0 flow (sym is.1.of.kind.1 ∙ ap (flow_at map) last ∙ at))

    at_end : is.0 ≡ pc → move_in block graph.edges (pc + bytes) to ≡ along block (find (joins block.start to) graph.edges)
    at_end last = cond-false (ltb (pc + bytes) block.end) _ _ (not_below (pc + bytes) block.end (end_is last))
      where
        not_below : (a b : ℕ) → b ≡ a → ltb a b ≡ false
        not_below a b e = elim (cases_Bool (ltb a b)) [ inl less ↦ absurd (let h : a < b = ltb-true a b less in omega arith) | inr unmet ↦ unmet ]

    -- the edges of the program from the last address
    edge_is : is.0 ≡ pc → (kind : EdgeKind) → LeadsTo map (Returns map) pc to kind → IsEdge map seeds (edge_to block.start kind to)
    edge_is last kind leads = record { last = pc; from = is.1.leader; ends = subst (IsLastOf map (IsLeader map seeds) block.start) last is.1.last; leads = leads }

    goes_along : is.0 ≡ pc → (kind : EdgeKind) → LeadsTo map (Returns map) pc to kind → IsOrderlyMove (map to) (move_in block graph.edges (pc + bytes) to)
    goes_along last kind leads = subst (IsOrderlyMove (map to)) (sym (at_end last)) (elim (find-cases (joins block.start to) graph.edges) [
      | inl none ↦ absurd (edge_there (edge_to block.start kind to) (edge_is last kind leads) none.1)
      | inr some ↦ subst (λ o. IsOrderlyMove (map to) (along block o)) (sym some.1) tt
    ])

    goes_out : is.0 ≡ pc → MayBeLeftTo (map to) block.kind → IsOrderlyMove (map to) (move_in block graph.edges (pc + bytes) to)
    goes_out last left = subst (IsOrderlyMove (map to)) (sym (at_end last)) (either (find (joins block.start to) graph.edges))
      where
        either : (o : Option Edge) → IsOrderlyMove (map to) (along block o)
        either None = left
        either (Some edge) = tt

    left_by : (flow : Flow) → flow_at map pc ≡ Some flow → EndsChain (Some flow) → (kind : EndKind) → end_kind flow ≡ kind → MayBeLeftTo (map to) kind → IsOrderlyMove (map to) (move_in block graph.edges (pc + bytes) to)
    left_by flow at ends kind same left = goes_out (last_by flow at ends) (subst (MayBeLeftTo (map to)) (sym (kind_is (last_by flow at ends) flow at ∙ same)) left)

    straight_on : {k : ℕ} → RunsTo map (IsLeader map seeds) pc k → is.0 ≡ k → GoesOnTo map pc to → to ≡ pc + bytes → IsOrderlyMove (map to) (move_in block graph.edges (pc + bytes) to)
    straight_on RunsTo.here last goes behind = goes_along last kinds.Fall (LeadsTo.straight goes)
    straight_on (RunsTo.on {next = other} {k = k} way none rest) last goes behind =
        let up : other ≤ k = chain_up lawful (chain_of rest) in
        let same : to ≡ other = one_next map pc to other goes way in
        let below : ltb (pc + bytes) block.end ≡ true = lt-ltb (pc + bytes) block.end (below_end up same) in
        subst (IsOrderlyMove (map to)) (sym (cond-true (ltb (pc + bytes) block.end) _ _ below ∙ cond-true (eqb to (pc + bytes)) _ _ (eq-eqb to (pc + bytes) behind))) tt
      where
        below_end : other ≤ k → to ≡ other → pc + bytes < block.end
        below_end up same = omega (arith, last_below map seeds block is lawful, last, same, behind)

    behind_is : GoesOnTo map pc to → to ≡ pc + bytes
    behind_is goes =
        let length : HasLength map pc to = has_length map lawful pc to goes in
        length.behind ∙ ap (λ n. pc + n) (same_Some length.bytes bytes (sym length.is ∙ long))

    -- by the flow of the instruction
    module _ (before after : List Frame) (orderly : IsOrderly map graph pc to before after) where
      pub accounted : (flow : Flow) → flow_at map pc ≡ Some flow → GoesTo map (targets_at map pc) to flow → IsOrderlyMove (map to) (move_in block graph.edges (pc + bytes) to)
      accounted (flows.Straight next) at way =
          let goes : GoesOnTo map pc to = at ∙ ap (λ n. Some (flows.Straight n)) (sym way) in straight_on run refl goes (behind_is goes)
      accounted (flows.Branch taken fall) at (inl (inl e)) =
          goes_along (last_by (flows.Branch taken fall) at tt) kinds.Taken (LeadsTo.taken (at ∙ ap (λ o. Some (flows.Branch o fall)) e))
      accounted (flows.Branch taken fall) at (inl (inr e)) =
          goes_along (last_by (flows.Branch taken fall) at tt) kinds.Fall (LeadsTo.not_taken (at ∙ ap (λ o. Some (flows.Branch taken o)) e))
      accounted (flows.Branch taken fall) at (inr out) = left_by (flows.Branch taken fall) at tt ends.BranchOut out.1 out.0
      accounted (flows.Jump target) at way =
          goes_along (last_by (flows.Jump target) at tt) kinds.Jump (LeadsTo.jump (at ∙ ap (λ n. Some (flows.Jump n)) (sym way)))
      accounted (flows.Call target fall) at way =
          goes_along (last_by (flows.Call target fall) at tt) kinds.Call (LeadsTo.call (at ∙ ap (λ n. Some (flows.Call n fall)) (sym way)))
      accounted (flows.IndirectCall fall) at way = left_by (flows.IndirectCall fall) at tt ends.IndirectCall refl tt
      accounted (flows.Table entries full is_open) at way =
          goes_along (last_by (flows.Table entries full is_open) at tt) kinds.Table
          (LeadsTo.table at (orderly_table map graph pc to entries full is_open at orderly (full_kept map (targets_at map pc) to entries full is_open way)))
      accounted flows.Return at way = left_by flows.Return at tt ends.Return refl tt
      accounted flows.Unknown at way = left_by flows.Unknown at tt ends.Unknown refl tt
      accounted flows.Stop at way = left_by flows.Stop at tt ends.Stop refl way
