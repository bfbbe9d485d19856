-- Two runs that begin alike go alike for ever, if one of them keeps to the graph within the body.
use Rattle.std.proofs.Common.{◌≡◌, ◌≢◌, ℕ, zero, suc, ◌<◌, ◌≤◌, ◌⊎◌, true, false, List, [], ◌∷◌, Option, Some, None, Contains, refl, sym, ap, ◌∙◌, subst, inl, inr, eqb, ltb, ⊎_elim}
use Rattle.std.specs.List.{find}
use Rattle.std.proofs.lemmas.Bool.{cases_Bool, cases_eq, cases_lt, cond-true, cond-false, lt-ltb, le-ltb, eqb-true, eq-eqb, and_parts}
use Rattle.elf_image.specs.Code.{is_code}
use Rattle.elf_image.proofs.Finds.{find-cases}
use Rattle.cfg_model.specs.declared.graph.Block.{Block}
use Rattle.cfg_model.specs.declared.graph.Edge.{Edge}
use Rattle.cfg_model.specs.declared.graph.EdgeKind.{EdgeKind}
use Rattle.cfg_model.specs.declared.graph.EdgeKind.TheVariants as kinds
use Rattle.cfg_model.specs.declared.graph.EndKind.{EndKind}
use Rattle.cfg_model.specs.declared.graph.EndKind.TheVariants as ends
use Rattle.cfg_model.specs.declared.graph.Graph.{Graph}
use Rattle.cfg_model.specs.Program.Instructions.{IsLawful}
use Rattle.cfg_model.proofs.Graphs.Joined.{edges_join_blocks}
use Rattle.cfg_model.proofs.Graphs.Lists.{Contains-here, Contains-later, Contains-none, Contains-cons_cases}
use Rattle.code_view.specs.Program.{program_under}
use Rattle.code_view.proofs.Lawful.{program-lawful}
use Rattle.rv_decode.specs.declared.instructions.Insn.{Insn}
use Rattle.rv_flow.specs.declared.placed.Placed.{Placed}
use Rattle.rv_flow.specs.Placed.{placed_at}
use Rattle.rv_machine.specs.State.{State}
use Rattle.rv_machine.specs.declared.trap.Trap.TheVariants as traps
use Rattle.rv_machine.specs.Step.{Traps, step_of}
use Rattle.open_machine.specs.World.{World}
use Rattle.open_machine.specs.Asked.{Surroundings}
use Rattle.open_machine.specs.Step.{Outcome, Ends, Goes, step_beyond, step_from, open_step}
use Rattle.open_machine.specs.Runs.{OpenStepsTo}
use Rattle.edge_cover.specs.declared.moves.Move.TheVariants.{Inside, Along}
use Rattle.edge_cover.specs.Move.{joins, along}
use Rattle.edge_cover.specs.Covered.{MayBeLeft, IsCovered}
use Rattle.live_regs.specs.Leaves.{LeadsOn, Leaves, ends_outside}
use Rattle.live_regs.specs.Live.{IsBlockIn}
use Rattle.free_laws.specs.Agree.{Agree, OpenEndAlike}
use Rattle.free_laws.specs.Steps.{insn_of, reads_or_writes}
use Rattle.free_laws.specs.Within.{Place, next_of, move_from, StaysBy, RunsWithin}
use Rattle.free_laws.specs.Free.{IsGraphOfFile, KeepsToGraph, FreeRegistersAreFree, and_then, after_steps}
use Rattle.free_laws.proofs.OpenStep.{open_steps_read_what_is_said, open_steps_write_what_is_said}
use Rattle.free_laws.proofs.LiveFrom.{LiveFrom}
use Rattle.free_laws.proofs.Ends.{goes_on_inside, goes_out_of_code, call_block}
use Rattle.free_laws.proofs.Twins.{fewer, Going, at_first, steps_alike, going_inside, going_across, all_agree}

-- an address is in a list, or is not
contains_or_not : (xs : List ℕ) (a : ℕ) → Contains xs a ⊎ (¬ Contains xs a)
contains_or_not [] a = inr (Contains-none a)
contains_or_not (x ∷ xs) a = elim (cases_eq x a) [
  | inl same ↦ inl (subst (Contains (x ∷ xs)) same (Contains-here x xs))
  | inr other ↦ elim (contains_or_not xs a) [
    | inl more ↦ inl (Contains-later x xs a more)
    | inr none ↦ inr (λ c. ⊎_elim (λ same. other same) none (Contains-cons_cases x xs a c))
  ]
]

call_or_not : (kind : EdgeKind) → (kind ≡ kinds.Call) ⊎ (kind ≢ kinds.Call)
call_or_not kinds.Fall = inr (λ e. cc)
call_or_not kinds.Taken = inr (λ e. cc)
call_or_not kinds.Jump = inr (λ e. cc)
call_or_not kinds.Tail = inr (λ e. cc)
call_or_not kinds.Call = inl refl
call_or_not kinds.After = inr (λ e. cc)
call_or_not kinds.Table = inr (λ e. cc)
call_or_not kinds.Landing = inr (λ e. cc)

-- a block that may be left elsewhere leaves its function, or ends with a stop
may_leave : (kind : EndKind) → MayBeLeft kind → (ends_outside kind ≡ true) ⊎ (kind ≡ ends.Stop)
may_leave ends.Fall left = absurd left
may_leave ends.Branch left = absurd left
may_leave ends.BranchOut left = inl refl
may_leave ends.Jump left = absurd left
may_leave ends.Call left = absurd left
may_leave ends.IndirectCall left = inl refl
may_leave ends.Return left = inl refl
may_leave ends.Table left = absurd left
may_leave ends.TableCut left = inl refl
may_leave ends.TableOpen left = inl refl
may_leave ends.Unknown left = inl refl
may_leave ends.Stop left = inr refl

abbrev None_of : ℕ → Type 0
None_of r = ⊥

-- ---- runs that are alike

module _ (bytes : List ℕ) (surroundings : Surroundings) where
  -- after a step that ends alike
  then_alike : {P : ℕ → Type 0} (n : ℕ) (o p : Outcome) → OpenEndAlike P o p
      → ((one other : State) (left : World) → o ≡ Goes one left → p ≡ Goes other left → Agree P one other
      → OpenEndAlike None_of (after_steps bytes surroundings n one left) (after_steps bytes surroundings n other left))
      → OpenEndAlike None_of (and_then o (after_steps bytes surroundings n)) (and_then p (after_steps bytes surroundings n))
  then_alike n o p OpenEndAlike.ended more = OpenEndAlike.ended
  then_alike n o p (OpenEndAlike.gone {one = one} {other = other} {world = world} agree) more = more one other world refl refl agree

  none_alike : {P : ℕ → Type 0} (one other : State) (world : World) → Agree P one other → OpenEndAlike None_of (after_steps bytes surroundings 0 one world) (after_steps bytes surroundings 0 other world)
  unfolding after_steps
  none_alike one other world agree = OpenEndAlike.gone (record { pc = agree.pc; reservation = agree.reservation; registers = λ r low none. absurd none })

  one_more : {P : ℕ → Type 0} (n : ℕ) (one other : State) (world : World) → OpenEndAlike P (open_step bytes surroundings one world) (open_step bytes surroundings other world)
      → ((a b : State) (left : World) → OpenStepsTo bytes surroundings one world a left → OpenStepsTo bytes surroundings other world b left → Agree P a b
      → OpenEndAlike None_of (after_steps bytes surroundings n a left) (after_steps bytes surroundings n b left))
      → OpenEndAlike None_of (after_steps bytes surroundings (suc n) one world) (after_steps bytes surroundings (suc n) other world)
  unfolding after_steps
  one_more n one other world alike more = then_alike n (open_step bytes surroundings one world) (open_step bytes surroundings other world) alike more

  -- states that agree in all registers make the same steps for ever
  all_again : (one other : State) (world : World) → Agree (λ r. Unit {0}) one other → (a b : State) (left : World) → OpenStepsTo bytes surroundings one world a left → OpenStepsTo bytes surroundings other world b left
      → Agree (λ r. reads_or_writes (insn_of bytes one) r ≡ true) a b → Agree (λ r. Unit {0}) a b
  all_again one other world agree a b left goes too agreed = record {
    pc = agreed.pc;
    reservation = agreed.reservation;
    registers = λ r low all. elim (cases_Bool (reads_or_writes (insn_of bytes one) r)) [
      | inl said ↦ agreed.registers r low said
      | inr kept ↦
          let same : reads_or_writes (insn_of bytes other) r ≡ false = ap (λ a. reads_or_writes (placed_at bytes a).insn r) (sym agree.pc) ∙ kept in
          open_steps_write_what_is_said bytes surroundings one a world left goes r low kept ∙ agree.registers r low tt
          ∙ sym (open_steps_write_what_is_said bytes surroundings other b world left too r low same)
    ];
  }

  pub same_for_ever : (n : ℕ) (one other : State) (world : World) → Agree (λ r. Unit {0}) one other → OpenEndAlike None_of (after_steps bytes surroundings n one world) (after_steps bytes surroundings n other world)
  same_for_ever zero one other world agree = none_alike one other world agree
  same_for_ever (suc n) one other world agree =
      one_more n one other world (open_steps_read_what_is_said bytes surroundings one other world (fewer (λ r low read. tt) agree))
      (λ a b left goes too agreed. same_for_ever n a b left (all_again one other world agree a b left goes too agreed))

  -- outside the code both end
  not_left : (placed : Placed) (o : Option Insn) (state : State) (world : World) → step_beyond bytes surroundings (record placed { insn = o }) traps.Fetch state world ≡ Ends traps.Fetch
  not_left placed None state world = refl
  not_left placed (Some insn) state world = refl

  fetch_ends : (state : State) (world : World) → is_code bytes state.pc ≡ false → open_step bytes surroundings state world ≡ Ends traps.Fetch
  fetch_ends state world none =
      ap (λ o. step_from bytes surroundings o state world) fetch_traps
      ∙ not_left (placed_at bytes state.pc) (placed_at bytes state.pc).insn state world
    where
      fetch_traps : step_of bytes state world.memory ≡ Traps traps.Fetch
      fetch_traps = cond-false (is_code bytes state.pc) _ _ none

  out_of_code : (n : ℕ) (one other : State) (world : World) → {P : ℕ → Type 0} → Agree P one other → is_code bytes one.pc ≡ false → OpenEndAlike None_of (after_steps bytes surroundings n one world) (after_steps bytes surroundings n other world)
  out_of_code zero one other world agree none = none_alike one other world agree
  out_of_code (suc n) one other world agree none =
      one_more n one other world both (λ a b left goes too same. same_for_ever n a b left same)
    where
      both : OpenEndAlike (λ r. Unit {0}) (open_step bytes surroundings one world) (open_step bytes surroundings other world)
      both =
          subst (λ o. OpenEndAlike (λ r. Unit {0}) o (open_step bytes surroundings other world)) (sym (fetch_ends one world none))
          (subst (λ o. OpenEndAlike (λ r. Unit {0}) (Ends traps.Fetch) o) (sym (fetch_ends other world (ap (is_code bytes) (sym agree.pc) ∙ none))) OpenEndAlike.ended)

-- ---- a run that keeps to the graph

module _ (bytes : List ℕ) (cuts : ℕ → Option ℕ) (seeds : List ℕ) (graph : Graph) (body : List ℕ) (of : IsGraphOfFile bytes cuts seeds graph) (surroundings : Surroundings) where
  abbrev Alike : ℕ → State → State → World → Type 0
  Alike n one other world = OpenEndAlike None_of (after_steps bytes surroundings n one world) (after_steps bytes surroundings n other world)

  lawful : IsLawful (program_under bytes cuts)
  lawful = program-lawful bytes of.accepted cuts of.fit

  -- what is to be shown for so many more steps
  abbrev GoAlike : ℕ → Type 0
  GoAlike n = (place : Place) (twin : State) → Going bytes cuts seeds graph body of surroundings place twin → KeepsToGraph bytes surroundings graph body place → Alike n place.state twin place.world

  module _ (n : ℕ) (more : GoAlike n) (place : Place) (twin : State) (going : Going bytes cuts seeds graph body of surroundings place twin) (keeps : KeepsToGraph bytes surroundings graph body place)
      (after other : State) (left : World) (steps : OpenStepsTo bytes surroundings place.state place.world after left)
      (agree : Agree (LiveFrom bytes graph body place.block (next_of bytes place.state)) after other) where
    -- the run keeps to the graph after a step within the body
    keeps_on : (to : Block) → StaysBy graph body place.block to after.pc (move_from bytes graph place after.pc) → KeepsToGraph bytes surroundings graph body (record { block = to; state = after; world = left })
    keeps_on to stays last then end count runs goes = keeps last then end (suc count) (RunsWithin.onward (record { steps = steps; stays = stays }) runs) goes

    inside : next_of bytes place.state < place.block.end → Alike n after other left
    inside short =
        let on = goes_on_inside bytes cuts of.accepted of.fit seeds place.block (of.is.blocks.sound place.block going.listed) surroundings place.state after place.world left going.lies steps short in
        let move : move_from bytes graph place after.pc ≡ Inside =
        cond-true (ltb (next_of bytes place.state) place.block.end) _ _ (lt-ltb _ _ short) ∙ cond-true (eqb after.pc (next_of bytes place.state)) _ _ (eq-eqb _ _ on.0) in
        more (record { block = place.block; state = after; world = left }) other
        (going_inside bytes cuts seeds graph body of surroundings place twin going after other left steps short agree)
        (keeps_on place.block (subst (StaysBy graph body place.block place.block after.pc) (sym move) (StaysBy.inside refl)))

    leaves : place.block.end ≤ next_of bytes place.state → Leaves graph.edges body place.block → Alike n after other left
    leaves past out = same_for_ever bytes surroundings n after other left (all_agree bytes cuts seeds graph body of surroundings place twin going after other past out agree)

    move_past : place.block.end ≤ next_of bytes place.state → move_from bytes graph place after.pc ≡ along place.block (find (joins place.block.start after.pc) graph.edges)
    move_past past = cond-false (ltb (next_of bytes place.state) place.block.end) _ _ (le-ltb (next_of bytes place.state) place.block.end past)

    across : place.block.end ≤ next_of bytes place.state → (edge : Edge) → Contains graph.edges edge → edge.from ≡ place.block.start → edge.to ≡ after.pc → edge.kind ≢ kinds.Call
        → move_from bytes graph place after.pc ≡ Along edge.kind → Alike n after other left
    across past edge listed from there no_call move = elim (contains_or_not body after.pc) [
      | inl within ↦
          let starts = (edges_join_blocks (program_under bytes cuts) seeds of.entry graph lawful of.is edge listed).1 in
          let in_body : IsBlockIn graph.blocks body after.pc starts.block = record { listed = starts.listed; starts = starts.starts ∙ there; within = within } in
          more (record { block = starts.block; state = after; world = left }) other
          (going_across bytes cuts seeds graph body of surroundings place twin going starts.block after other left in_body past on agree)
          (keeps_on starts.block (subst (StaysBy graph body place.block starts.block after.pc) (sym move) (StaysBy.along no_call in_body)))
      | inr outside ↦ leaves past (Leaves.by_edge on outside)
    ]
      where
        on : LeadsOn graph.edges place.block.start after.pc
        on = record { edge = edge; listed = listed; from = from; to = there; no_call = no_call }

    called : place.block.end ≤ next_of bytes place.state → (edge : Edge) → Contains graph.edges edge → edge.from ≡ place.block.start → edge.kind ≡ kinds.Call → Alike n after other left
    called past edge listed from call =
        leaves past (Leaves.by_end (ap ends_outside (call_block (program_under bytes cuts) seeds place.block (of.is.blocks.sound place.block going.listed) (of.is.edges.sound edge listed) from call)))

    out : place.block.end ≤ next_of bytes place.state → MayBeLeft place.block.kind → Alike n after other left
    out past left_so = elim (may_leave place.block.kind left_so) [
      | inl outside ↦ leaves past (Leaves.by_end outside)
      | inr stop ↦ out_of_code bytes surroundings n after other left agree
          (goes_out_of_code bytes cuts of.accepted of.fit seeds place.block (of.is.blocks.sound place.block going.listed) surroundings place.state after place.world left going.lies steps stop past)
    ]

    at_end : place.block.end ≤ next_of bytes place.state → Alike n after other left
    at_end past = elim (find-cases (joins place.block.start after.pc) graph.edges) [
      | inl none ↦ out past (subst IsCovered (move_past past ∙ ap (along place.block) none.0) (keeps place after left 0 RunsWithin.here steps))
      | inr some ↦
          let both = and_parts (eqb some.0.from place.block.start) (eqb some.0.to after.pc) some.2 in
          let from = eqb-true some.0.from place.block.start both.0 in
          elim (call_or_not some.0.kind) [
            | inl call ↦ called past some.0 some.3 from call
            | inr no_call ↦ across past some.0 some.3 from (eqb-true some.0.to after.pc both.1) no_call (move_past past ∙ ap (along place.block) some.1)
          ]
    ]

    after_one : Alike n after other left
    after_one = elim (cases_lt (next_of bytes place.state) place.block.end) [
      | inl short ↦ inside short
      | inr past ↦ at_end past
    ]

  go_alike : (n : ℕ) → GoAlike n
  go_alike zero place twin going keeps = none_alike bytes surroundings place.state twin place.world going.agree
  go_alike (suc n) place twin going keeps =
      one_more bytes surroundings n place.state twin place.world (steps_alike bytes cuts seeds graph body of surroundings place twin going)
      (λ after other left steps too agree. after_one n (go_alike n) place twin going keeps after other left steps agree)

pub free_registers_are_free : FreeRegistersAreFree
free_registers_are_free bytes cuts seeds graph body of surroundings first other begin keeps n =
    go_alike bytes cuts seeds graph body of surroundings n first other (at_first bytes cuts seeds graph body of surroundings first other begin) keeps
