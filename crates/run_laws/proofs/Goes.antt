-- Where a prepared step goes, by the flow of its instruction.
use Rattle.std.proofs.Common.{◌≡◌, ℕ, ◌+◌, ◌⊎◌, Bool, true, false, cond, List, Option, Some, None, Contains, eqb, refl, sym, ap, ◌∙◌, subst, inl, inr}
use Rattle.std.specs.Prelude.{All, ◌<◌}
use Rattle.std.proofs.lemmas.Bool.{cond-false}
use Rattle.std.proofs.lemmas.Option.{same_Some}
use Rattle.elf_image.specs.Code.{is_code}
use Rattle.elf_image.specs.Faults.{IsImage}
use Rattle.rv_decode.specs.declared.instructions.Insn.{Insn}
use Rattle.rv_decode.specs.declared.instructions.Insn.TheVariants as insns
use Rattle.rv_flow.specs.Placed.{placed_at}
use Rattle.rv_flow.specs.declared.raw.RawFlow.{RawFlow}
use Rattle.rv_flow.specs.declared.raw.RawFlow.TheVariants as raw
use Rattle.rv_flow.specs.Raw.{address_plus, pair_target, jalr_flow, is_stub, insn_flow, raw_flow_by}
use Rattle.jump_table.specs.declared.table.Table.{Table}
use Rattle.jump_table.specs.Table.{table_at}
use Rattle.cfg_model.specs.declared.flow.Flow.{Flow}
use Rattle.cfg_model.specs.declared.flow.Flow.TheVariants as flows
use Rattle.cfg_model.specs.declared.graph.EndKind.TheVariants as ends
use Rattle.cfg_model.specs.declared.graph.Outline.{Outline}
use Rattle.cfg_model.specs.Graph.Block.{end_kind}
use Rattle.cfg_model.specs.Program.Instructions.{InstructionMap, flow_at, targets_at}
use Rattle.code_view.specs.Flow.{flow_by, in_code, straight_flow, jump_flow, call_flow, call_fall, kept_entries}
use Rattle.code_view.specs.Program.{program_under}
use Rattle.code_view.proofs.Lawful.{flow-program}
use Rattle.rv_machine.specs.declared.trap.Trap.{Trap}
use Rattle.rv_machine.specs.declared.trap.Trap.TheVariants as traps
use Rattle.rv_machine.specs.State.{State}
use Rattle.rv_machine.specs.Memory.{Bytes}
use Rattle.rv_machine.specs.Step.{Outcome, Traps, Goes, advanced, insn_step, step_of}
use Rattle.open_machine.specs.World.{World}
use Rattle.open_machine.specs.Asked.{Surroundings}
use Rattle.open_machine.specs.Step.{is_left}
use Rattle.open_machine.specs.Runs.{OpenStepsTo}
use Rattle.open_machine.proofs.Open.{IsAnswered, open_step_is}
use Rattle.edge_cover.specs.Cover.{IsOutlineOfFile, IsPaired, IsFullTable}
use Rattle.edge_cover.specs.Runs.{StepsTo}
use Rattle.edge_cover.proofs.Steps.{LeadsBy, PairHolds, goes_by}
use Rattle.edge_cover.proofs.Cover.{IsMade, made}
use Rattle.edge_cover.proofs.Pairs.{pair_goes}
use Rattle.edge_cover.proofs.Straight.{code_of_step, advanced_is}
use Rattle.edge_cover.proofs.Tables.{lands_on_target}
use Rattle.edge_cover.proofs.OpenSteps.{answered_alone, answered_next}
use Rattle.free_laws.specs.Keeping.{IsPrepared}

-- control goes to this address by the flow of an instruction with these kept targets
abbrev pub GoesTo : InstructionMap → List ℕ → ℕ → Flow → Type 0
GoesTo map kept to (flows.Straight next) = to ≡ next
GoesTo map kept to (flows.Branch taken fall) = ((taken ≡ Some to) ⊎ (fall ≡ Some to)) ⊎ ((map to ≡ None) × (end_kind (flows.Branch taken fall) ≡ ends.BranchOut))
GoesTo map kept to (flows.Jump target) = to ≡ target
GoesTo map kept to (flows.Call target fall) = to ≡ target
GoesTo map kept to (flows.Table entries true false) = Contains kept to
GoesTo map kept to flows.Stop = map to ≡ None
GoesTo map kept to _ = Unit {0}

-- where the flow of an instruction alone leads, its flow in its place does too
module _ (bytes : List ℕ) (cuts : ℕ → Option ℕ) (kept : List ℕ) (behind to : ℕ) where
  abbrev There : Flow → Type 0
  There = GoesTo (program_under bytes cuts) kept to

  no_code : (a : ℕ) → is_code bytes a ≡ false → to ≡ a → program_under bytes cuts to ≡ None
  no_code a none e = cond-false (is_code bytes to) _ _ (ap (is_code bytes) e ∙ none)

  straight_to : (b : Bool) → is_code bytes behind ≡ b → to ≡ behind → There (straight_flow (cond b (Some behind) None))
  straight_to true is e = e
  straight_to false is e = no_code behind is e

  taken_to : (target : ℕ) (fall : Option ℕ) (b : Bool) → is_code bytes target ≡ b → to ≡ target → There (flows.Branch (cond b (Some target) None) fall)
  taken_to target fall true is e = inl (inl (ap Some (sym e)))
  taken_to target fall false is e = inr (no_code target is e, refl)

  fall_to : (taken : Option ℕ) (b : Bool) → is_code bytes behind ≡ b → to ≡ behind → There (flows.Branch taken (cond b (Some behind) None))
  fall_to taken true is e = inl (inr (ap Some (sym e)))
  fall_to None false is e = inr (no_code behind is e, refl)
  fall_to (Some target) false is e = inr (no_code behind is e, refl)

  branch_to : (target : ℕ) → (to ≡ target) ⊎ (to ≡ behind) → There (flows.Branch (in_code bytes target) (in_code bytes behind))
  branch_to target (inl e) = taken_to target (in_code bytes behind) (is_code bytes target) refl e
  branch_to target (inr e) = fall_to (in_code bytes target) (is_code bytes behind) refl e

  jump_to : (target : ℕ) (b : Bool) → to ≡ target → There (jump_flow (cond b (Some target) None))
  jump_to target true e = e
  jump_to target false e = tt

  call_to : (target : ℕ) (fall : Option ℕ) (b : Bool) → to ≡ target → There (call_flow (cond b (Some target) None) fall)
  call_to target fall true e = e
  call_to target fall false e = tt

  table_to : (entries : ℕ) (full is_open : Bool) → (full ≡ true → is_open ≡ false → Contains kept to) → There (flows.Table entries full is_open)
  table_to entries true true whole = tt
  table_to entries true false whole = whole refl refl
  table_to entries false true whole = tt
  table_to entries false false whole = tt

  there_by : (cut : Option ℕ) (o : Option Table) (r : RawFlow) → LeadsBy r behind to → (r ≡ raw.Stop → ⊥)
      → ((entries : ℕ) → flow_by bytes behind cut o r ≡ flows.Table entries true false → Contains kept to) → There (flow_by bytes behind cut o r)
  there_by cut o raw.Straight leads goes whole = straight_to (is_code bytes behind) refl leads
  there_by cut o (raw.Branch target) leads goes whole = branch_to target leads
  there_by cut o (raw.Jump target) leads goes whole = jump_to target (is_code bytes target) leads
  there_by cut o (raw.Call target) leads goes whole = call_to target (call_fall bytes target behind) (is_code bytes target) leads
  there_by cut o raw.IndirectCall leads goes whole = tt
  there_by cut o raw.Return leads goes whole = tt
  there_by cut o raw.Unknown leads goes whole = tt
  there_by cut None (raw.RegisterJump register offset) leads goes whole = tt
  there_by cut (Some table) (raw.RegisterJump register offset) leads goes whole =
      table_to (kept_entries cut table) (eqb (kept_entries cut table) table.bound) table.is_open
      (λ full bounded. whole (kept_entries cut table)
      (ap (λ (b : Bool). flows.Table (kept_entries cut table) b table.is_open) full ∙ ap (λ (b : Bool). flows.Table (kept_entries cut table) true b) bounded))
  there_by cut o raw.Stop leads goes whole = absurd (goes refl)

-- ---- no step is made at an instruction that stops

module _ (bytes : List ℕ) (length : ℕ) (state after : State) (memory left : Bytes) where
  jal_goes : (rd target : ℕ) (b : Bool) → cond b (raw.Jump target) (raw.Call target) ≡ raw.Stop → ⊥
  jal_goes rd target true e = cc
  jal_goes rd target false e = cc

  jalr_goes : (rd rs1 : ℕ) (o : Option ℕ) (imm : _) → jalr_flow rd rs1 imm o ≡ raw.Stop → ⊥
  jalr_goes rd rs1 (Some target) imm e = jal_goes rd target (eqb rd 0) e
  jalr_goes rd rs1 None imm e = by (eqb rd 0) _ (is_stub rd rs1) e
    where
      by : (b link stub : Bool) → cond b (cond link raw.Return (raw.RegisterJump rs1 imm)) (cond stub (raw.RegisterJump rs1 imm) raw.IndirectCall) ≡ raw.Stop → ⊥
      by true true stub e = cc
      by true false stub e = cc
      by false link true e = cc
      by false link false e = cc

  stop_makes_none : (insn : Insn) → insn_flow bytes state.pc insn ≡ raw.Stop → insn_step bytes length insn state memory ≡ Goes after left → ⊥
  stop_makes_none (insns.Jal rd offset) stops goes = jal_goes rd (address_plus state.pc offset) (eqb rd 0) stops
  stop_makes_none (insns.Jalr rd rs1 imm) stops goes = jalr_goes rd rs1 (pair_target bytes state.pc rs1 imm) imm stops
  stop_makes_none (insns.Branch kind rs1 rs2 offset) stops goes = cc
  stop_makes_none insns.Ebreak stops goes = cc
  stop_makes_none (insns.Csr kind rd source csr) stops goes = cc
  stop_makes_none (insns.Away kind reads writes) stops goes = cc
  stop_makes_none (insns.Lui rd imm) stops goes = cc
  stop_makes_none (insns.Auipc rd imm) stops goes = cc
  stop_makes_none (insns.Load kind rd rs1 imm) stops goes = cc
  stop_makes_none (insns.Store kind rs1 rs2 imm) stops goes = cc
  stop_makes_none (insns.Imm kind rd rs1 imm) stops goes = cc
  stop_makes_none (insns.ImmW kind rd rs1 imm) stops goes = cc
  stop_makes_none (insns.Reg kind rd rs1 rs2) stops goes = cc
  stop_makes_none (insns.RegW kind rd rs1 rs2) stops goes = cc
  stop_makes_none (insns.Atomic kind wide acquire release rd rs1 rs2) stops goes = cc
  stop_makes_none insns.Fence stops goes = cc
  stop_makes_none insns.FenceI stops goes = cc
  stop_makes_none insns.Ecall stops goes = cc
  stop_makes_none (insns.Float writes reads) stops goes = cc
  stop_makes_none (insns.ShiftAdd shift zero_extended rd rs1 rs2) stops goes = cc
  stop_makes_none (insns.Extend kind rd rs1) stops goes = cc
  stop_makes_none (insns.Extension reads writes) stops goes = cc
  stop_makes_none (insns.Vendor kind shift rd rs1 rs2) stops goes = cc

-- ---- a step at code, by where the flow of its instruction alone leads

module _ (bytes : List ℕ) (cuts : ℕ → Option ℕ) (image : IsImage bytes) (state after : State) (code : is_code bytes state.pc ≡ true) where
  flow_is : flow_at (program_under bytes cuts) state.pc ≡ Some (flow_by bytes (state.pc + (placed_at bytes state.pc).length) (cuts state.pc) (table_at bytes state.pc) (raw_flow_by bytes state.pc (placed_at bytes state.pc).insn))
  flow_is = flow-program bytes cuts state.pc code (placed_at bytes state.pc) refl

  goes_by_flow : LeadsBy (raw_flow_by bytes state.pc (placed_at bytes state.pc).insn) (advanced (placed_at bytes state.pc).length state) after.pc
      → (raw_flow_by bytes state.pc (placed_at bytes state.pc).insn ≡ raw.Stop → ⊥)
      → ((entries : ℕ) → flow_at (program_under bytes cuts) state.pc ≡ Some (flows.Table entries true false) → Contains (targets_at (program_under bytes cuts) state.pc) after.pc)
      → (flow : Flow) → flow_at (program_under bytes cuts) state.pc ≡ Some flow → GoesTo (program_under bytes cuts) (targets_at (program_under bytes cuts) state.pc) after.pc flow
  goes_by_flow leads goes_on full_table flow at =
      subst (GoesTo (program_under bytes cuts) (targets_at (program_under bytes cuts) state.pc) after.pc) (same_Some _ flow (sym flow_is ∙ at))
      (there_by bytes cuts (targets_at (program_under bytes cuts) state.pc) (state.pc + (placed_at bytes state.pc).length) after.pc (cuts state.pc) (table_at bytes state.pc) (raw_flow_by bytes state.pc (placed_at bytes state.pc).insn)
      (subst (λ n. LeadsBy (raw_flow_by bytes state.pc (placed_at bytes state.pc).insn) n after.pc) (advanced_is bytes image state code) leads) goes_on
      (λ entries is. full_table entries (flow_is ∙ ap Some is)))

-- ---- a prepared step of the written machine

module _ (bytes : List ℕ) (cuts : ℕ → Option ℕ) (seeds : List ℕ) (outline : Outline) (of : IsOutlineOfFile bytes cuts seeds outline) (small : All (λ byte. byte < 256) bytes)
    (state after : State) (memory left : Bytes) (prepared : IsPrepared bytes cuts state memory) (steps : StepsTo bytes state memory after left) where
  code : is_code bytes state.pc ≡ true
  code = code_of_step bytes state after memory left steps

  step : IsMade bytes state after memory left
  step = made bytes state after memory left steps

  pair_holds : (insn : Insn) → (placed_at bytes state.pc).insn ≡ Some insn → PairHolds bytes state insn
  pair_holds (insns.Jalr rd rs1 imm) stands = λ target pair.
      let is : IsPaired bytes state.pc = record { rd = rd; rs1 = rs1; imm = imm; target = target; jumps = stands; pair = pair } in
      let upper = prepared.pair is in
      pair_goes bytes upper.before state upper.start memory is upper.right_before upper.step
  pair_holds insn stands = tt

  leads : LeadsBy (raw_flow_by bytes state.pc (placed_at bytes state.pc).insn) (advanced (placed_at bytes state.pc).length state) after.pc
  leads =
      subst (λ o. LeadsBy (raw_flow_by bytes state.pc o) (advanced (placed_at bytes state.pc).length state) after.pc) (sym step.stands)
      (goes_by bytes (placed_at bytes state.pc).length state memory step.insn after left (pair_holds step.insn step.stands) step.makes)

  goes_on : raw_flow_by bytes state.pc (placed_at bytes state.pc).insn ≡ raw.Stop → ⊥
  goes_on stops =
      stop_makes_none bytes (placed_at bytes state.pc).length state after memory left step.insn (subst (λ o. raw_flow_by bytes state.pc o ≡ raw.Stop) step.stands stops) step.makes

  full_table : (entries : ℕ) → flow_at (program_under bytes cuts) state.pc ≡ Some (flows.Table entries true false) → Contains (targets_at (program_under bytes cuts) state.pc) after.pc
  full_table entries at =
      let full : IsFullTable (program_under bytes cuts) state.pc = record { entries = entries; jumps = at } in
      lands_on_target bytes cuts seeds outline of small state after memory left code full (prepared.table full) steps

  written_goes : (flow : Flow) → flow_at (program_under bytes cuts) state.pc ≡ Some flow → GoesTo (program_under bytes cuts) (targets_at (program_under bytes cuts) state.pc) after.pc flow
  written_goes = goes_by_flow bytes cuts of.accepted state after code leads goes_on full_table

-- ---- a step of the surroundings

abbrev trap_of : Trap → Outcome → Trap
trap_of otherwise (Traps trap) = trap
trap_of otherwise (Goes after left) = otherwise

-- they are asked at no address that is no code
left_is_code : (bytes : List ℕ) (state : State) (memory : Bytes) (trap : Trap) → step_of bytes state memory ≡ Traps trap → is_left trap ≡ true → is_code bytes state.pc ≡ true
left_is_code bytes state memory trap stopped left = by (is_code bytes state.pc) _ stopped
  where
    clash : false ≡ true → ⊥
    clash e = cc

    by : (b : Bool) (o : Outcome) → cond b o (Traps traps.Fetch) ≡ Traps trap → b ≡ true
    by true o e = refl
    by false o e = absurd (clash (ap (λ o. is_left (trap_of trap o)) e ∙ left))

module _ (bytes : List ℕ) (surroundings : Surroundings) (state after : State) (world left : World) (answer : IsAnswered bytes surroundings state world after left) where
  alone : raw_flow_by bytes state.pc (placed_at bytes state.pc).insn ≡ raw.Straight
  alone = answered_alone bytes surroundings state after world left answer

  answered_code : is_code bytes state.pc ≡ true
  answered_code = left_is_code bytes state world.memory answer.trap answer.traps answer.is_left

  answered_leads : LeadsBy (raw_flow_by bytes state.pc (placed_at bytes state.pc).insn) (advanced (placed_at bytes state.pc).length state) after.pc
  answered_leads =
      subst (λ r. LeadsBy r (advanced (placed_at bytes state.pc).length state) after.pc) (sym alone) (answered_next bytes surroundings state after world left answer)

  answered_on : raw_flow_by bytes state.pc (placed_at bytes state.pc).insn ≡ raw.Stop → ⊥
  answered_on stops = let h : raw.Straight ≡ raw.Stop = sym alone ∙ stops in cc

  module _ (cuts : ℕ → Option ℕ) (image : IsImage bytes) where
    no_table : (entries : ℕ) (b : Bool) → ◌≡◌ {A = Option Flow} (Some (straight_flow (cond b (Some (state.pc + (placed_at bytes state.pc).length)) None))) (Some (flows.Table entries true false)) → ⊥
    no_table entries true e = cc
    no_table entries false e = cc

    answered_goes : (flow : Flow) → flow_at (program_under bytes cuts) state.pc ≡ Some flow → GoesTo (program_under bytes cuts) (targets_at (program_under bytes cuts) state.pc) after.pc flow
    answered_goes = goes_by_flow bytes cuts image state after answered_code answered_leads answered_on (λ entries at.
        absurd (no_table entries (is_code bytes (state.pc + (placed_at bytes state.pc).length))
        (sym (ap (λ r. Some (flow_by bytes (state.pc + (placed_at bytes state.pc).length) (cuts state.pc) (table_at bytes state.pc) r)) alone)
        ∙ sym (flow_is bytes cuts image state after answered_code) ∙ at)))

-- ---- a prepared step of the open machine

module _ (bytes : List ℕ) (cuts : ℕ → Option ℕ) (surroundings : Surroundings) (state after : State) (world left : World) (steps : OpenStepsTo bytes surroundings state world after left) where
  pub code_of_open_step : is_code bytes state.pc ≡ true
  code_of_open_step = elim (open_step_is bytes surroundings state world after left steps) [
    | inl written ↦ code_of_step bytes state after world.memory left.memory written.steps
    | inr answer ↦ answered_code bytes surroundings state after world left answer
  ]

  pub step_goes : (seeds : List ℕ) (outline : Outline) → IsOutlineOfFile bytes cuts seeds outline → All (λ byte. byte < 256) bytes → IsPrepared bytes cuts state world.memory
      → (flow : Flow) → flow_at (program_under bytes cuts) state.pc ≡ Some flow → GoesTo (program_under bytes cuts) (targets_at (program_under bytes cuts) state.pc) after.pc flow
  step_goes seeds outline of small prepared = elim (open_step_is bytes surroundings state world after left steps) [
    | inl written ↦ written_goes bytes cuts seeds outline of small state after world.memory left.memory prepared written.steps
    | inr answer ↦ answered_goes bytes surroundings state after world left answer cuts of.accepted
  ]
