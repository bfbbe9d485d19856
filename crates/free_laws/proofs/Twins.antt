-- Two runs within the body of a function, from states that agree in what is live.
use Rattle.std.proofs.Common.{◌≡◌, ℕ, ◌+◌, ◌<◌, ◌≤◌, Bool, true, false, cond, List, Option, Some, None, Contains, refl, sym, ap, ◌∙◌, subst, inl, inr, eqb, ltb, arith}
use Rattle.std.specs.Prelude.{IsTrue}
use Rattle.std.specs.List.{find}
use Rattle.std.proofs.lemmas.Bool.{cases_Bool, ltb-true, ltb-false, eqb-true, and_parts, or_parts}
use Rattle.elf_image.proofs.Finds.{find-cases}
use Rattle.cfg_model.specs.declared.graph.Block.{Block}
use Rattle.cfg_model.specs.declared.graph.Edge.{Edge}
use Rattle.cfg_model.specs.declared.graph.EdgeKind.{EdgeKind}
use Rattle.cfg_model.specs.declared.graph.Graph.{Graph}
use Rattle.cfg_model.specs.Program.Instructions.{IsLawful}
use Rattle.cfg_model.specs.Graph.Block.{RunsTo, IsBlock}
use Rattle.cfg_model.specs.Graph.Places.{LiesIn}
use Rattle.code_view.specs.Program.{program_under}
use Rattle.code_view.proofs.Lawful.{program-lawful}
use Rattle.rv_flow.specs.Placed.{placed_at}
use Rattle.rv_machine.specs.State.{State}
use Rattle.open_machine.specs.World.{World}
use Rattle.open_machine.specs.Asked.{Surroundings}
use Rattle.open_machine.specs.Step.{Outcome, Goes, open_step}
use Rattle.open_machine.specs.Runs.{OpenStepsTo}
use Rattle.edge_cover.specs.declared.moves.Move.{Move}
use Rattle.edge_cover.specs.declared.moves.Move.TheVariants.{Inside, Along, Out}
use Rattle.edge_cover.specs.Move.{joins, along, move_in}
use Rattle.edge_cover.proofs.Lies.{lies_below}
use Rattle.live_regs.specs.Effects.{reads, writes}
use Rattle.live_regs.specs.Leaves.{LeadsOn, Leaves}
use Rattle.live_regs.specs.Live.{IsBlockIn, IsLive}
use Rattle.free_laws.specs.Agree.{Agree, OpenEndAlike}
use Rattle.free_laws.specs.Steps.{insn_of, reads_or_writes}
use Rattle.free_laws.specs.Within.{Place, with_state, next_of, move_from, StaysBy, StepsWithin, RunsWithin}
use Rattle.free_laws.specs.Free.{IsGraphOfFile, BeginAlike, AgreeAt, RunsWithinAreAlike}
use Rattle.free_laws.proofs.OpenStep.{open_steps_read_what_is_said, open_steps_write_what_is_said}
use Rattle.free_laws.proofs.LiveFrom.{LiveFrom, live_said, live_read, live_kept, live_end, live_by_start, live_at_start}
use Rattle.free_laws.proofs.Ends.{goes_on_inside}

-- ---- fewer registers

pub fewer : {P Q : ℕ → Type 0} {one other : State} → ((r : ℕ) → r < 32 → Q r → P r) → Agree P one other → Agree Q one other
fewer less agree = record { pc = agree.pc; reservation = agree.reservation; registers = λ r low among. agree.registers r low (less r low among) }

pub fewer_alike : {P Q : ℕ → Type 0} {o p : Outcome} → ((r : ℕ) → r < 32 → Q r → P r) → OpenEndAlike P o p → OpenEndAlike Q o p
fewer_alike less OpenEndAlike.ended = OpenEndAlike.ended
fewer_alike less (OpenEndAlike.gone agree) = OpenEndAlike.gone (fewer less agree)

-- where one goes on, the other does
pub record IsGone (Among : ℕ → Type 0) (p : Outcome) (after : State) (left : World) : Type 0 where
  pub twin : State
  pub goes : p ≡ Goes twin left
  pub agree : Agree Among after twin

pub both_go : {Among : ℕ → Type 0} {o p : Outcome} (after : State) (left : World) → OpenEndAlike Among o p → o ≡ Goes after left → IsGone Among p after left
both_go after left OpenEndAlike.ended e = cc
both_go {Among} after left (OpenEndAlike.gone {one = one} {other = other} {world = world} agree) e =
    let same : one ≡ after = cc in
    let kept : world ≡ left = cc in
    record { twin = other; goes = ap (λ (w : World). Goes other w) kept; agree = subst (λ (s : State). Agree Among s other) same agree }

-- ---- moves

pub record IsAlong (block : Block) (edges : List Edge) (next to : ℕ) (kind : EdgeKind) : Type 0 where
  pub edge : Edge
  pub listed : Contains edges edge
  pub from : edge.from ≡ block.start
  pub there : edge.to ≡ to
  pub is : edge.kind ≡ kind
  pub past : block.end ≤ next

module _ (block : Block) (edges : List Edge) (next to : ℕ) where
  pub moves_inside : move_in block edges next to ≡ Inside → next < block.end
  moves_inside e = by (ltb next block.end) refl (eqb to next) (find (joins block.start to) edges) e
    where
      by : (below : Bool) → ltb next block.end ≡ below → (same : Bool) (o : Option Edge) → cond below (cond same Inside (Out block.kind)) (along block o) ≡ Inside → next < block.end
      by true is same o e = ltb-true next block.end is
      by false is same None e = absurd cc
      by false is same (Some edge) e = absurd cc

  pub moves_along : (kind : EdgeKind) → move_in block edges next to ≡ Along kind → IsAlong block edges next to kind
  moves_along kind e = by (ltb next block.end) refl (eqb to next) e
    where
      found : block.end ≤ next → along block (find (joins block.start to) edges) ≡ Along kind → IsAlong block edges next to kind
      found past e = elim (find-cases (joins block.start to) edges) [
        | inl none ↦ let lost : along block None ≡ Along kind = subst (λ (o : Option Edge). along block o ≡ Along kind) none.0 e in absurd cc
        | inr some ↦
            let there : along block (Some some.0) ≡ Along kind = subst (λ (o : Option Edge). along block o ≡ Along kind) some.1 e in
            let both = and_parts (eqb some.0.from block.start) (eqb some.0.to to) some.2 in
            record { edge = some.0; listed = some.3; from = eqb-true some.0.from block.start both.0; there = eqb-true some.0.to to both.1; is = cc; past = past }
      ]

      by : (below : Bool) → ltb next block.end ≡ below → (same : Bool) → cond below (cond same Inside (Out block.kind)) (along block (find (joins block.start to) edges)) ≡ Along kind → IsAlong block edges next to kind
      by true is true e = absurd cc
      by true is false e = absurd cc
      by false is same e = found (ltb-false next block.end is) e

-- ---- twins

module _ (bytes : List ℕ) (cuts : ℕ → Option ℕ) (seeds : List ℕ) (graph : Graph) (body : List ℕ) (of : IsGraphOfFile bytes cuts seeds graph) (surroundings : Surroundings) where
  lawful : IsLawful (program_under bytes cuts)
  lawful = program-lawful bytes of.accepted cuts of.fit

  is_block : (block : Block) → Contains graph.blocks block → IsBlock (program_under bytes cuts) seeds block
  is_block block listed = of.is.blocks.sound block listed

  -- two states at a place agree in what is live from there on
  pub record Going (place : Place) (twin : State) : Type 0 where
    pub listed : Contains graph.blocks place.block
    pub within : Contains body place.block.start
    pub lies : LiesIn (program_under bytes cuts) seeds place.block place.state.pc
    pub agree : Agree (LiveFrom bytes graph body place.block place.state.pc) place.state twin

  module _ (place : Place) (twin : State) (going : Going place twin) where
    below : place.state.pc < place.block.end
    below = lies_below (program_under bytes cuts) seeds place.block (is_block place.block going.listed) lawful place.state.pc going.lies

    -- so their steps end alike, in what is live after the instruction
    more_alike : (o p : Outcome) → open_step bytes surroundings place.state place.world ≡ o → open_step bytes surroundings twin place.world ≡ p
        → OpenEndAlike (λ r. IsTrue (reads_or_writes (insn_of bytes place.state) r)) o p → OpenEndAlike (LiveFrom bytes graph body place.block (next_of bytes place.state)) o p
    more_alike o p goes too OpenEndAlike.ended = OpenEndAlike.ended
    more_alike o p goes too (OpenEndAlike.gone {one = one} {other = other} {world = world} agree) =
        OpenEndAlike.gone (record {
          pc = agree.pc;
          reservation = agree.reservation;
          registers = λ r low live. elim (cases_Bool (reads_or_writes (insn_of bytes place.state) r)) [
            | inl said ↦ agree.registers r low said
            | inr kept ↦
                let not_written = (or_parts (reads (insn_of bytes place.state) r) (writes (insn_of bytes place.state) r) kept).1 in
                let same : reads_or_writes (insn_of bytes twin) r ≡ false = ap (λ a. reads_or_writes (placed_at bytes a).insn r) (sym going.agree.pc) ∙ kept in
                open_steps_write_what_is_said bytes surroundings place.state one place.world world goes r low kept
                ∙ going.agree.registers r low (live_kept bytes graph body place.block place.state.pc r below not_written live)
                ∙ sym (open_steps_write_what_is_said bytes surroundings twin other place.world world too r low same)
          ];
        })

    pub steps_alike : OpenEndAlike (LiveFrom bytes graph body place.block (next_of bytes place.state)) (open_step bytes surroundings place.state place.world) (open_step bytes surroundings twin place.world)
    steps_alike =
        more_alike _ _ refl refl
        (open_steps_read_what_is_said bytes surroundings place.state twin place.world
        (fewer (λ r low read. live_read bytes graph body place.block place.state.pc r below read) going.agree))

    -- within the block
    pub going_inside : (after other : State) (left : World) → OpenStepsTo bytes surroundings place.state place.world after left → next_of bytes place.state < place.block.end
        → Agree (LiveFrom bytes graph body place.block (next_of bytes place.state)) after other → Going (record { block = place.block; state = after; world = left }) other
    going_inside after other left steps short agree =
        let on = goes_on_inside bytes cuts of.accepted of.fit seeds place.block (is_block place.block going.listed) surroundings place.state after place.world left going.lies steps short in
        record {
          listed = going.listed;
          within = going.within;
          lies = on.1;
          agree = subst (λ a. Agree (LiveFrom bytes graph body place.block a) after other) (sym on.0) agree;
        }

    -- across an edge to another block of the body
    pub going_across : (to : Block) (after other : State) (left : World) → IsBlockIn graph.blocks body after.pc to → place.block.end ≤ next_of bytes place.state → LeadsOn graph.edges place.block.start after.pc
        → Agree (LiveFrom bytes graph body place.block (next_of bytes place.state)) after other → Going (record { block = to; state = after; world = left }) other
    going_across to after other left in_body past on agree = record {
      listed = in_body.listed;
      within = subst (Contains body) (sym in_body.starts) in_body.within;
      lies = subst (λ a. LiesIn (program_under bytes cuts) seeds to a) in_body.starts RunsTo.here;
      agree = fewer (λ r low live. live_end bytes graph body place.block (next_of bytes place.state) r past (inr (after.pc, on, live_there r live))) agree;
    }
      where
        live_there : (r : ℕ) → LiveFrom bytes graph body to after.pc r → IsLive bytes graph.blocks graph.edges body r after.pc
        live_there r live =
            let start = in_body.starts in
            subst (IsLive bytes graph.blocks graph.edges body r) start
            (live_by_start bytes graph body to in_body.listed (subst (Contains body) (sym start) in_body.within) r (subst (λ a. LiveFrom bytes graph body to a r) (sym start) live))

    -- out of a block that leaves the function everything agrees
    pub all_agree : (after other : State) → place.block.end ≤ next_of bytes place.state → Leaves graph.edges body place.block
        → Agree (LiveFrom bytes graph body place.block (next_of bytes place.state)) after other → Agree (λ r. Unit {0}) after other
    all_agree after other past leaves agree =
        fewer (λ r low all. live_end bytes graph body place.block (next_of bytes place.state) r past (inl leaves)) agree

    -- ---- a step within the body

    record IsTaken (to : Place) : Type 0 where
      twin_to : State
      steps : OpenStepsTo bytes surroundings twin place.world twin_to to.world
      agree : Agree (LiveFrom bytes graph body place.block (next_of bytes place.state)) to.state twin_to
      goes_on : Going to twin_to

    stays_going : (to : Place) (twin_to : State) (move : Move) → move_from bytes graph place to.state.pc ≡ move → StaysBy graph body place.block to.block to.state.pc move
        → OpenStepsTo bytes surroundings place.state place.world to.state to.world → Agree (LiveFrom bytes graph body place.block (next_of bytes place.state)) to.state twin_to → Going to twin_to
    stays_going to twin_to move is (StaysBy.inside same) steps agree =
        let short = moves_inside place.block graph.edges (next_of bytes place.state) to.state.pc is in
        subst (λ (b : Block). Going (record { block = b; state = to.state; world = to.world }) twin_to) (sym same)
        (going_inside to.state twin_to to.world steps short agree)
    stays_going to twin_to move is (StaysBy.along {kind = kind} other in_body) steps agree =
        let way = moves_along place.block graph.edges (next_of bytes place.state) to.state.pc kind is in
        going_across to.block to.state twin_to to.world in_body way.past
        (record { edge = way.edge; listed = way.listed; from = way.from; to = way.there; no_call = λ call. other (sym way.is ∙ call) }) agree

    step_taken : (to : Place) → StepsWithin bytes surroundings graph body place to → IsTaken to
    step_taken to step =
        let gone = both_go to.state to.world steps_alike step.steps in
        record { twin_to = gone.twin; steps = gone.goes; agree = gone.agree; goes_on = stays_going to gone.twin _ refl step.stays step.steps gone.agree }

    -- the other's step within the body
    twin_within : (to : Place) → (step : StepsWithin bytes surroundings graph body place to) → (taken : IsTaken to) → StepsWithin bytes surroundings graph body (with_state place twin) (with_state to taken.twin_to)
    twin_within to step taken = record {
      steps = taken.steps;
      stays = subst (λ q. StaysBy graph body place.block to.block q (move_in place.block graph.edges (twin.pc + (placed_at bytes twin.pc).length) q)) taken.agree.pc
          (subst (λ p. StaysBy graph body place.block to.block to.state.pc (move_in place.block graph.edges (p + (placed_at bytes p).length) to.state.pc)) going.agree.pc step.stays);
    }

    -- ---- what is told of a place

    pub agree_at : AgreeAt bytes surroundings graph body place twin
    agree_at = record {
      read = fewer (λ r low read. live_said bytes graph body place.block place.state.pc r below read) going.agree;
      agree = fewer (λ r low both. subst (λ a. LiveFrom bytes graph body place.block a r) (sym both.0) (live_at_start bytes graph body (program_under bytes cuts) seeds of.entry of.is place.block going.listed refl both.1)) going.agree;
      step = fewer_alike (λ r low both. live_end bytes graph body place.block (next_of bytes place.state) r (at_least (next_of bytes place.state) place.block.end both.0) (inl both.1)) steps_alike;
    }
      where
        at_least : (a b : ℕ) → a ≡ b → b ≤ a
        at_least a b e = omega arith

  pub at_first : (first : Place) (other : State) → BeginAlike bytes graph body first other → Going first other
  at_first first other begin =
      let start = begin.begins.starts in
      let within : Contains body first.block.start = subst (Contains body) (sym start) begin.begins.within in
      record {
        listed = begin.begins.listed;
        within = within;
        lies = subst (λ a. LiesIn (program_under bytes cuts) seeds first.block a) start RunsTo.here;
        agree = fewer (λ r low live. subst (IsLive bytes graph.blocks graph.edges body r) start (live_by_start bytes graph body first.block begin.begins.listed within r (subst (λ a. LiveFrom bytes graph body first.block a r) (sym start) live))) begin.agree;
      }

  pub runs_alike : {n : ℕ} {first last : Place} (twin : State) → Going first twin → RunsWithin bytes surroundings graph body n first last
      → (end : State) × Going last end × RunsWithin bytes surroundings graph body n (with_state first twin) (with_state last end)
  runs_alike twin going RunsWithin.here = (twin, going, RunsWithin.here)
  runs_alike twin going (RunsWithin.onward {from = from} {next = next} step rest) =
      let taken = step_taken from twin going next step in
      let more = runs_alike taken.twin_to taken.goes_on rest in
      (more.0, more.1, RunsWithin.onward (twin_within from twin going next step taken) more.2)

pub runs_within_are_alike : RunsWithinAreAlike
runs_within_are_alike bytes cuts seeds graph body of surroundings first last other n begin runs =
    let ended = runs_alike bytes cuts seeds graph body of surroundings other (at_first bytes cuts seeds graph body of surroundings first other begin) runs in
    (ended.0, agree_at bytes cuts seeds graph body of surroundings last ended.0 ended.1, ended.2)
