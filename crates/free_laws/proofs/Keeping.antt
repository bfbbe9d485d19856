-- A run that is prepared keeps to the graph.
use Rattle.std.proofs.Common.{◌≡◌, ◌≢◌, ℕ, ◌<◌, ◌⊎◌, Bool, true, false, cond, List, Option, Some, None, Contains, refl, sym, ap, ◌∙◌, subst, inl, inr, eqb, ltb}
use Rattle.std.specs.Prelude.{ℤ, All}
use Rattle.std.specs.List.{find, list_any}
use Rattle.std.proofs.lemmas.Bool.{and_from, both_ways, eq-eqb, and_parts, eqb-true}
use Rattle.elf_image.proofs.Finds.{find-cases, any-contained}
use Rattle.rv_decode.specs.declared.instructions.Insn.{Insn}
use Rattle.rv_decode.specs.declared.instructions.Insn.TheVariants as insns
use Rattle.rv_flow.specs.Placed.{placed_at}
use Rattle.rv_flow.specs.Raw.{pair_target}
use Rattle.cfg_model.specs.declared.flow.Flow.{Flow}
use Rattle.cfg_model.specs.declared.flow.Flow.TheVariants as flows
use Rattle.cfg_model.specs.declared.graph.Block.{Block}
use Rattle.cfg_model.specs.declared.graph.Edge.{Edge}
use Rattle.cfg_model.specs.declared.graph.EdgeKind.{EdgeKind}
use Rattle.cfg_model.specs.declared.graph.EdgeKind.TheVariants as kinds
use Rattle.cfg_model.specs.declared.graph.Graph.{Graph}
use Rattle.cfg_model.specs.declared.graph.Outline.{Outline}
use Rattle.cfg_model.specs.Program.Instructions.{InstructionMap, IsLawful, flow_at}
use Rattle.cfg_model.specs.Program.Reach.{Reached}
use Rattle.cfg_model.specs.Graph.Edge.{IsEdge}
use Rattle.cfg_model.specs.Graph.Function.{IsTailCall, IsMarkedEdge}
use Rattle.cfg_model.proofs.Graphs.LeaderFacts.{reached_along}
use Rattle.code_view.specs.Program.{program_under}
use Rattle.code_view.proofs.Lawful.{program-lawful, length-program}
use Rattle.rv_machine.specs.State.{State}
use Rattle.open_machine.specs.World.{World, with_memory}
use Rattle.open_machine.specs.Asked.{Surroundings}
use Rattle.open_machine.specs.Runs.{OpenStepsTo}
use Rattle.open_machine.proofs.Open.{written_steps_are_open}
use Rattle.edge_cover.specs.declared.moves.Move.TheVariants.{Inside, Out}
use Rattle.edge_cover.specs.Move.{joins, along, move_in, IsMoveOf}
use Rattle.edge_cover.specs.Covered.{IsCovered}
use Rattle.edge_cover.specs.Cover.{IsOutlineOfFile, IsPaired, IsFullTable}
use Rattle.edge_cover.proofs.OpenSteps.{open_steps_are_covered, open_pairs_are_covered, open_table_runs_are_covered}
use Rattle.edge_cover.proofs.Lies.{chain_of, lies_below}
use Rattle.edge_cover.proofs.Placed.{block_there, same_move}
use Rattle.free_laws.specs.Within.{Place, next_of, move_from}
use Rattle.free_laws.specs.Free.{IsGraphOfFile, BeginAlike}
use Rattle.free_laws.specs.Keeping.{IsPrepared, PreparedRunsKeepToGraph}
use Rattle.free_laws.proofs.Ends.{open_code_of_step}
use Rattle.free_laws.proofs.Twins.{Going, at_first, runs_alike}

-- ---- what is paired, and what is a full table

paired_or_not : (bytes : List ℕ) (a : ℕ) → IsPaired bytes a ⊎ (¬ IsPaired bytes a)
paired_or_not bytes a = by (placed_at bytes a).insn refl
  where
    none_is : {o : Option Insn} → (placed_at bytes a).insn ≡ o → ((rd rs1 : ℕ) (imm : ℤ) → o ≡ Some (insns.Jalr rd rs1 imm) → ⊥) → ¬ IsPaired bytes a
    none_is is none pair = none pair.rd pair.rs1 pair.imm (sym is ∙ pair.jumps)

    jalr : (rd rs1 : ℕ) (imm : ℤ) → (placed_at bytes a).insn ≡ Some (insns.Jalr rd rs1 imm) → (o : Option ℕ) → pair_target bytes a rs1 imm ≡ o → IsPaired bytes a ⊎ (¬ IsPaired bytes a)
    jalr rd rs1 imm is (Some target) pair = inl (record { rd = rd; rs1 = rs1; imm = imm; target = target; jumps = is; pair = pair })
    jalr rd rs1 imm is None alone = inr (λ pair. other pair (sym is ∙ pair.jumps))
      where
        other : (pair : IsPaired bytes a) → ◌≡◌ {A = Option Insn} (Some (insns.Jalr rd rs1 imm)) (Some (insns.Jalr pair.rd pair.rs1 pair.imm)) → ⊥
        other pair e =
            let source : rs1 ≡ pair.rs1 = cc in
            let offset : imm ≡ pair.imm = cc in
            let same : pair_target bytes a pair.rs1 pair.imm ≡ None = ap (λ s. pair_target bytes a s pair.imm) (sym source) ∙ (ap (λ i. pair_target bytes a rs1 i) (sym offset) ∙ alone) in
            let some = pair.pair in
            cc

    by : (o : Option Insn) → (placed_at bytes a).insn ≡ o → IsPaired bytes a ⊎ (¬ IsPaired bytes a)
    by (Some (insns.Jalr rd rs1 imm)) is = jalr rd rs1 imm is (pair_target bytes a rs1 imm) refl
    by None is = inr (none_is is (λ rd rs1 imm e. cc))
    by (Some other) is = inr (none_is is (λ rd rs1 imm e. cc))

full_or_not : (map : InstructionMap) (a : ℕ) → IsFullTable map a ⊎ (¬ IsFullTable map a)
full_or_not map a = by (flow_at map a) refl
  where
    none_is : {o : Option Flow} → flow_at map a ≡ o → ((entries : ℕ) → o ≡ Some (flows.Table entries true false) → ⊥) → ¬ IsFullTable map a
    none_is is none table = none table.entries (sym is ∙ table.jumps)

    by : (o : Option Flow) → flow_at map a ≡ o → IsFullTable map a ⊎ (¬ IsFullTable map a)
    by (Some (flows.Table entries true false)) is = inl (record { entries = entries; jumps = is })
    by None is = inr (none_is is (λ entries e. cc))
    by (Some other) is = inr (none_is is (λ entries e. cc))

-- ---- moves by the edges of a graph

module _ (bytes : List ℕ) (cuts : ℕ → Option ℕ) (seeds : List ℕ) (outline : Outline) (graph : Graph) (of : IsOutlineOfFile bytes cuts seeds outline) (drawn : IsGraphOfFile bytes cuts seeds graph) where
  map : InstructionMap
  map = program_under bytes cuts

  module _ (from to : ℕ) (none : list_any (joins from to) graph.edges ≡ false) where
    no_edge : (edge : Edge) → Contains graph.edges edge → edge.from ≡ from → edge.to ≡ to → ⊥
    no_edge edge listed starts ends_there =
        both_ways (list_any (joins from to) graph.edges) none
        (any-contained (joins from to) graph.edges edge listed (and_from _ _ (eq-eqb edge.from from starts) (eq-eqb edge.to to ends_there)))

    -- so the outline has none either
    no_way : (edge : Edge) → IsEdge (program_under bytes cuts) seeds edge → edge.from ≡ from → edge.to ≡ to → ⊥
    no_way edge is starts ends_there = by edge.kind refl
      where
        other : edge.kind ≢ kinds.Jump → ⊥
        other ne = no_edge edge (drawn.is.edges.complete edge (IsMarkedEdge.other is ne)) starts ends_there

        no_tail : edge.kind ≡ kinds.Jump → ¬ IsTailCall (program_under bytes cuts) seeds edge.from edge.to
        no_tail jump tail = no_edge (record edge { kind = kinds.Tail }) (drawn.is.edges.complete (record edge { kind = kinds.Tail }) (IsMarkedEdge.tail is jump tail)) starts ends_there

        by : (kind : EdgeKind) → edge.kind ≡ kind → ⊥
        by kinds.Jump e = no_edge edge (drawn.is.edges.complete edge (IsMarkedEdge.jump is e (no_tail e))) starts ends_there
        by kind e = other (λ jump. cc)

  covered_along : (block : Block) (to : ℕ) → IsCovered (along block (find (joins block.start to) outline.edges)) → IsCovered (along block (find (joins block.start to) graph.edges))
  covered_along block to covered = elim (find-cases (joins block.start to) graph.edges) [
    | inr some ↦ subst (λ o. IsCovered (along block o)) (sym some.1) tt
    | inl none ↦ subst (λ o. IsCovered (along block o)) (sym none.0) (elim (find-cases (joins block.start to) outline.edges) [
      | inl too ↦ subst (λ o. IsCovered (along block o)) too.0 covered
      | inr some ↦
          let both = and_parts (eqb some.0.from block.start) (eqb some.0.to to) some.2 in
          absurd (no_way block.start to none.1 some.0 (of.is.all_edges.sound some.0 some.3) (eqb-true some.0.from block.start both.0) (eqb-true some.0.to to both.1))
    ])
  ]

  covered_in : (block : Block) (next to : ℕ) → IsCovered (move_in block outline.edges next to) → IsCovered (move_in block graph.edges next to)
  covered_in block next to covered = by (ltb next block.end) covered
    where
      by : (short : Bool) → IsCovered (cond short (cond (eqb to next) Inside (Out block.kind)) (along block (find (joins block.start to) outline.edges)))
          → IsCovered (cond short (cond (eqb to next) Inside (Out block.kind)) (along block (find (joins block.start to) graph.edges)))
      by true covered = covered
      by false covered = covered_along block to covered

  lawful : IsLawful (program_under bytes cuts)
  lawful = program-lawful bytes of.accepted cuts of.fit

  -- a step from a place of a block that is prepared
  module _ (small : All (λ byte. byte < 256) bytes) (body : List ℕ) (surroundings : Surroundings) (place : Place) (twin after : State) (left : World) (going : Going bytes cuts seeds graph body drawn surroundings place twin)
      (prepared : IsPrepared bytes cuts place.state place.world.memory) (steps : OpenStepsTo bytes surroundings place.state place.world after left) where
    reached : Reached (program_under bytes cuts) seeds place.state.pc
    reached = reached_along (drawn.is.blocks.sound place.block going.listed).1.leader.reached (chain_of going.lies)

    move : IsMoveOf (program_under bytes cuts) outline place.state.pc after.pc (move_in place.block outline.edges (next_of bytes place.state) after.pc)
    move =
        let is = drawn.is.blocks.sound place.block going.listed in
        same_move (program_under bytes cuts) lawful outline place.state.pc (placed_at bytes place.state.pc).length after.pc place.block
        (block_there (program_under bytes cuts) lawful outline place.state.pc place.block (of.is.all_blocks.complete place.block is) (chain_of going.lies) (lies_below (program_under bytes cuts) seeds place.block is lawful place.state.pc going.lies))
        (length-program bytes cuts place.state.pc (open_code_of_step bytes surroundings place.state place.world after left steps) (placed_at bytes place.state.pc) refl)

    covered : IsCovered (move_in place.block outline.edges (next_of bytes place.state) after.pc)
    covered = elim (paired_or_not bytes place.state.pc) [
      | inl pair ↦
          let upper = prepared.pair pair in
          open_pairs_are_covered bytes cuts seeds outline of surroundings upper.before place.state after (with_memory place.world upper.start) place.world left reached pair upper.right_before
          (written_steps_are_open bytes surroundings upper.before place.state (with_memory place.world upper.start) place.world.memory upper.step) steps _ move
      | inr alone ↦ elim (full_or_not (program_under bytes cuts) place.state.pc) [
        | inl full ↦
            subst IsCovered (sym (open_table_runs_are_covered bytes cuts seeds outline of small surroundings place.state after place.world left reached full (prepared.table full) steps _ move)) tt
        | inr plain ↦ open_steps_are_covered bytes cuts seeds outline of surroundings place.state after place.world left reached alone plain steps _ move
      ]
    ]

    pub keeps_here : IsCovered (move_from bytes graph place after.pc)
    keeps_here = covered_in place.block (next_of bytes place.state) after.pc covered

pub prepared_runs_keep_to_graph : PreparedRunsKeepToGraph
prepared_runs_keep_to_graph bytes cuts seeds outline graph body of drawn small surroundings first begins prepared last after left n runs steps =
    let begin : BeginAlike bytes graph body first first.state = record { begins = begins; agree = record { pc = refl; reservation = refl; registers = λ r low live. refl } } in
    let come = runs_alike bytes cuts seeds graph body drawn surroundings first.state (at_first bytes cuts seeds graph body drawn surroundings first first.state begin) runs in
    keeps_here bytes cuts seeds outline graph of drawn small body surroundings last come.0 after left come.1 (prepared last n runs) steps
