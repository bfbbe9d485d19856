-- The laws of whole runs.
use Rattle.std.proofs.Common.{◌≡◌, ℕ, ◌+◌, ◌<◌, Bool, true, false, List, ◌∷◌, Option, Some, None, IsSome, refl, sym, ap, ◌∙◌, subst, inl}
use Rattle.std.specs.Prelude.{All, IsTrue, IsFalse}
use Rattle.std.specs.Option.{option_map}
use Rattle.elf_image.specs.Code.{is_code}
use Rattle.rv_flow.specs.Placed.{placed_at}
use Rattle.cfg_model.specs.declared.flow.Flow.{Flow}
use Rattle.cfg_model.specs.declared.flow.Flow.TheVariants as flows
use Rattle.cfg_model.specs.declared.graph.EdgeKind.TheVariants as kinds
use Rattle.cfg_model.specs.declared.graph.Graph.{Graph}
use Rattle.cfg_model.specs.Program.Instructions.{Instruction, IsLawful, flow_at, targets_at}
use Rattle.cfg_model.specs.Program.Chain.{IsTerminator, EndsChain}
use Rattle.cfg_model.specs.Program.Successors.{IsCall, LeavesFunction}
use Rattle.cfg_model.specs.Program.Status.{Returns}
use Rattle.cfg_model.specs.Program.Reach.{Reached}
use Rattle.cfg_model.specs.Graph.Edge.{LeadsTo, IsEdge}
use Rattle.cfg_model.specs.Graph.Function.{IsMarkedEdge}
use Rattle.cfg_model.specs.Graph.Places.{HasABlock}
use Rattle.cfg_model.specs.Inner.Ways.{edge_to}
use Rattle.cfg_model.proofs.Graphs.Places.{each_address_has_a_block}
use Rattle.code_view.specs.Program.{program_under}
use Rattle.code_view.proofs.Lawful.{program-lawful, program-at_code, length-program}
use Rattle.open_machine.specs.Asked.{Surroundings}
use Rattle.edge_cover.specs.Move.{move_in}
use Rattle.edge_cover.specs.Cover.{IsOutlineOfFile}
use Rattle.free_laws.specs.Free.{IsGraphOfFile}
use Rattle.run_laws.specs.Frames.{Frame, running, return_address}
use Rattle.run_laws.specs.Runs.{Point, StepsOrderly, RunsOrderly, Begins, IsWholeRun}
use Rattle.run_laws.specs.Outline.{outline_of}
use Rattle.run_laws.specs.Whole.{IsOrderlyMove, StaysInGraph, HasAfter, RunsStay, ReturnsAreSaid, NoReturnIsNotTaken, NoReturnNeverEnds, ReturnsHaveEdges}
use Rattle.run_laws.proofs.Goes.{GoesTo, code_of_open_step, step_goes}
use Rattle.run_laws.proofs.Invariant.{CallsTo, IsFrame, FramesFit, Holds, at_begin, steps_on}
use Rattle.run_laws.proofs.OutlineOf.{graph_has_outline}
use Rattle.run_laws.proofs.Moves.{accounted}

-- what is true of a flag is not false
both_flags : (b : Bool) → IsTrue b → IsFalse b → ⊥
both_flags b h other = let e : true ≡ false = sym h ∙ other in cc

-- the graph of a file has an outline
pub outline_of_file : (bytes : List ℕ) (cuts : ℕ → Option ℕ) (seeds : List ℕ) (graph : Graph) → IsGraphOfFile bytes cuts seeds graph → IsOutlineOfFile bytes cuts seeds (outline_of graph)
outline_of_file bytes cuts seeds graph drawn = record {
  accepted = drawn.accepted;
  fit = drawn.fit;
  start = drawn.start;
  is = graph_has_outline (program_under bytes cuts) seeds drawn.entry graph drawn.is;
}

module _ (bytes : List ℕ) (cuts : ℕ → Option ℕ) (seeds : List ℕ) (graph : Graph) (drawn : IsGraphOfFile bytes cuts seeds graph) (small : All (λ byte. byte < 256) bytes) where
  lawful : IsLawful (program_under bytes cuts)
  lawful = program-lawful bytes drawn.accepted cuts drawn.fit

  of : IsOutlineOfFile bytes cuts seeds (outline_of graph)
  of = outline_of_file bytes cuts seeds graph drawn

  has_block : (a : ℕ) → Reached (program_under bytes cuts) seeds a → HasABlock (program_under bytes cuts) seeds graph.blocks a
  has_block a reached = each_address_has_a_block (program_under bytes cuts) seeds graph.blocks (outline_of graph).edges lawful drawn.start of.is a reached

  stands : (a : ℕ) → is_code bytes a ≡ true → IsSome (program_under bytes cuts a)
  stands a code = by (program_under bytes cuts a) (program-at_code bytes cuts a code)
    where
      by : (o : Option Instruction) {i : Instruction} → o ≡ Some i → IsSome o
      by None e = cc
      by (Some i) e = refl

  -- a step is made at a reached address
  module _ (surroundings : Surroundings) (begin : ℕ) (from to : Point) (holds : Holds (program_under bytes cuts) seeds begin from.state.pc from.frames) (step : StepsOrderly bytes surroundings cuts graph from to) where
    code : is_code bytes from.state.pc ≡ true
    code = code_of_open_step bytes cuts surroundings from.state to.state from.world to.world step.steps

    reached_there : Reached (program_under bytes cuts) seeds from.state.pc
    reached_there = holds.reached (stands from.state.pc code)

    goes : (flow : Flow) → flow_at (program_under bytes cuts) from.state.pc ≡ Some flow → GoesTo (program_under bytes cuts) (targets_at (program_under bytes cuts) from.state.pc) to.state.pc flow
    goes = step_goes bytes cuts surroundings from.state to.state from.world to.world step.steps seeds (outline_of graph) of small step.prepared

    on : Holds (program_under bytes cuts) seeds begin to.state.pc to.frames
    on = steps_on (program_under bytes cuts) seeds begin from.state.pc to.state.pc reached_there goes graph drawn.entry drawn.is holds step.orderly

    has : HasABlock (program_under bytes cuts) seeds graph.blocks from.state.pc
    has = has_block from.state.pc reached_there

    move : (o : Option Flow) → flow_at (program_under bytes cuts) from.state.pc ≡ o
        → IsOrderlyMove (program_under bytes cuts to.state.pc) (move_in has.block graph.edges (from.state.pc + (placed_at bytes from.state.pc).length) to.state.pc)
    move None e = absurd (none_stands (program_under bytes cuts from.state.pc) (stands from.state.pc code) e)
      where
        none_stands : (o : Option Instruction) → IsSome o → option_map (λ (i : Instruction). i.flow) o ≡ None → ⊥
        none_stands None some e = cc
        none_stands (Some i) some e = cc
    move (Some flow) e =
        accounted (program_under bytes cuts) seeds drawn.entry graph lawful drawn.is has.block has.listed from.state.pc (placed_at bytes from.state.pc).length to.state.pc has.lies
        (length-program bytes cuts from.state.pc code (placed_at bytes from.state.pc) refl) from.frames to.frames step.orderly flow e (goes flow e)

    stays : StaysInGraph bytes cuts seeds graph from.state.pc to.state.pc
    stays = record { has = has; move = move (flow_at (program_under bytes cuts) from.state.pc) refl }

  -- what holds wherever a run comes to
  holds_at : {surroundings : Surroundings} {first last : Point} → Begins seeds graph first → RunsOrderly bytes surroundings cuts graph first last → Holds (program_under bytes cuts) seeds first.state.pc last.state.pc last.frames
  holds_at {surroundings} {first} begins RunsOrderly.here =
      subst (Holds (program_under bytes cuts) seeds first.state.pc first.state.pc) (sym begins.no_frames) (at_begin (program_under bytes cuts) seeds first.state.pc graph drawn.entry drawn.is begins.entry)
  holds_at {surroundings} {first} begins (RunsOrderly.onward {from = from} {to = to} run step) = on surroundings first.state.pc from to (holds_at begins run) step

  pub runs_stay : RunsStay bytes cuts seeds graph
  runs_stay surroundings first from to whole step = stays surroundings first.state.pc from to (holds_at whole.begins whole.runs) step

  -- at a return, the function that runs returns
  returns_there : (surroundings : Surroundings) (first last : Point) → IsWholeRun bytes surroundings cuts seeds graph first last → flow_at (program_under bytes cuts) last.state.pc ≡ Some flows.Return → Returns (program_under bytes cuts) (running first.state.pc last.frames)
  returns_there surroundings first last whole at = (holds_at whole.begins whole.runs).returns (Returns.by_itself (subst LeavesFunction (sym at) tt))

  pub returns_are_said : ReturnsAreSaid bytes cuts seeds graph
  returns_are_said surroundings first last whole at function listed same =
      (drawn.is.functions.sound function listed).status.1 (subst (Returns (program_under bytes cuts)) (sym same) (returns_there surroundings first last whole at))

  pub no_return_is_not_taken : NoReturnIsNotTaken bytes cuts seeds graph
  no_return_is_not_taken surroundings first from to whole step taken function listed same never =
      both_flags function.returns
      (returns_are_said surroundings first from whole taken.returns function listed (same ∙ ap (running first.state.pc) (sym taken.last))) never

  pub no_return_never_ends : NoReturnNeverEnds bytes cuts seeds graph
  no_return_never_ends surroundings first last whole function listed same never none at =
      both_flags function.returns (returns_are_said surroundings first last whole at function listed (same ∙ ap (running first.state.pc) (sym none))) never

  -- the edge from a call to where it returns to
  after_edge : (call to : ℕ) → Reached (program_under bytes cuts) seeds call → IsTerminator (program_under bytes cuts) call → LeadsTo (program_under bytes cuts) (Returns (program_under bytes cuts)) call to kinds.After → HasAfter bytes cuts seeds graph call to
  after_edge call to reached ends leads =
      let has = has_block call reached in
      let block = drawn.is.blocks.sound has.block has.listed in
      let edge : IsEdge (program_under bytes cuts) seeds (edge_to has.block.start kinds.After to) =
      record { last = call; from = block.1.leader; ends = record { runs = has.lies; stops = inl ends }; leads = leads } in
      record { has = has; edge = drawn.is.edges.complete (edge_to has.block.start kinds.After to) (IsMarkedEdge.other edge (λ jump. cc)) }

  edge_back : (frame : Frame) (below : List Frame) (begin to : ℕ) → IsFrame (program_under bytes cuts) seeds begin frame below → Returns (program_under bytes cuts) frame.entry
      → (o : Option Flow) → flow_at (program_under bytes cuts) frame.call ≡ o → return_address o ≡ Some to → HasAfter bytes cuts seeds graph frame.call to
  edge_back frame below begin to is back (Some (flows.Call target fall)) at behind =
      let call : IsCall (program_under bytes cuts) frame.call target (Some to) = at ∙ ap (λ o. Some (flows.Call target o)) behind in
      let entry : frame.entry ≡ target = subst (CallsTo frame.entry) at is.1 in
      after_edge frame.call to is.0 (subst EndsChain (sym at) tt) (LeadsTo.after_call call (subst (Returns (program_under bytes cuts)) entry back))
  edge_back frame below begin to is back (Some (flows.IndirectCall fall)) at behind =
      after_edge frame.call to is.0 (subst EndsChain (sym at) tt) (LeadsTo.after_indirect (at ∙ ap (λ o. Some (flows.IndirectCall o)) behind))
  edge_back frame below begin to is back None at behind = cc
  edge_back frame below begin to is back (Some other) at behind = cc

  pub returns_have_edges : ReturnsHaveEdges bytes cuts seeds graph
  returns_have_edges surroundings first from to whole step taken =
      let fit : FramesFit (program_under bytes cuts) seeds first.state.pc (taken.frame ∷ to.frames) =
      subst (FramesFit (program_under bytes cuts) seeds first.state.pc) taken.last (holds_at whole.begins whole.runs).fit in
      edge_back taken.frame to.frames first.state.pc to.state.pc fit.0
      (subst (Returns (program_under bytes cuts)) (ap (running first.state.pc) taken.last) (returns_there surroundings first from whole taken.returns))
      (flow_at (program_under bytes cuts) taken.frame.call) refl taken.behind
