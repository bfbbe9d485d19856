-- A step at the JALR of a pair, right after the step at its LUI or AUIPC, goes where the pair says.
use Rattle.std.proofs.Common.{◌≡◌, ◌≢◌, ℕ, ◌+◌, ◌-◌, ◌*◌, ◌/◌, ◌≤◌, Bool, true, false, List, Option, Some, None, eqb, leb, cond, refl, sym, ap, ◌∙◌, subst, inl, inr, arith}
use Rattle.std.specs.Prelude.{ℤ}
use Rattle.std.specs.Option.{option_map, option_and_then}
use Rattle.std.specs.Int.{cast_unsigned, w64}
use Rattle.std.proofs.lemmas.Bool.{cases_Bool, cond-true, cond-false, eqb-true, eq-eqb, leb-true}
use Rattle.std.proofs.lemmas.Option.{same_Some, none-some}
use Rattle.elf_image.specs.Code.{section_start, word_at}
use Rattle.rv_decode.specs.Table.{instruction}
use Rattle.rv_decode.specs.declared.instructions.Insn.{Insn}
use Rattle.rv_decode.specs.declared.instructions.Insn.TheVariants as insns
use Rattle.rv_flow.specs.declared.placed.Placed.{Placed}
use Rattle.rv_flow.specs.Placed.{placed_at}
use Rattle.rv_flow.specs.Raw.{address_plus, word_before, upper_of, upper_before, pair_target, jalr_flow, raw_flow_by}
use Rattle.rv_flow.specs.declared.raw.RawFlow.TheVariants as raw
use Rattle.jump_table.specs.declared.table.Table.{Table}
use Rattle.jump_table.specs.Table.{table_at}
use Rattle.cfg_model.specs.Program.Instructions.{targets_at}
use Rattle.code_view.specs.Program.{program_under}
use Rattle.rv_machine.specs.State.{State}
use Rattle.rv_machine.specs.Registers.{RegisterFile, held, written}
use Rattle.rv_machine.specs.Memory.{Bytes}
use Rattle.rv_machine.specs.Step.{Outcome, Traps, Goes, insn_step}
use Rattle.edge_cover.specs.Cover.{IsPaired, PairsAreCovered}
use Rattle.edge_cover.specs.Runs.{StepsTo}
use Rattle.edge_cover.proofs.Placing.{placed_of, word_placed}
use Rattle.edge_cover.proofs.Steps.{PairHolds}
use Rattle.edge_cover.proofs.Cover.{IsMade, made, step_covered, TableFollows}

-- what comes of a value that is there
pub and_then_some : {A B : Type 0} (f : A → Option B) (o : Option A) (y : B) → option_and_then f o ≡ Some y → (x : A) × (o ≡ Some x) × (f x ≡ Some y)
and_then_some f None y e = cc
and_then_some f (Some x) y e = (x, refl, e)

pub map_some : {A B : Type 0} (f : A → B) (o : Option A) (y : B) → option_map f o ≡ Some y → (x : A) × (o ≡ Some x) × (f x ≡ y)
map_some f None y e = cc
map_some f (Some x) y e = (x, refl, same_Some (f x) y e)

-- the LUI or AUIPC before a JALR of a pair
pub record IsUpper (bytes : List ℕ) (a r target : ℕ) (imm : ℤ) : Type 0 where
  pub base : ℕ
  pub word : ℕ
  pub insn : Insn
  pub register : r ≢ 0
  pub low : 4 ≤ a
  pub there : word_at bytes (a - 4) ≡ Some word
  pub is : instruction word ≡ Some insn
  pub upper : upper_of (a - 4) r insn ≡ Some base
  pub sum : address_plus base imm / 2 * 2 ≡ target

module _ (bytes : List ℕ) (a r target : ℕ) (imm : ℤ) where
  low_word : (start w : ℕ) → cond (leb (start + 4) a) (word_at bytes (a - 4)) None ≡ Some w → (4 ≤ a) × (word_at bytes (a - 4) ≡ Some w)
  low_word start w e = by (leb (start + 4) a) refl e
    where
      by : (b : Bool) → leb (start + 4) a ≡ b → cond b (word_at bytes (a - 4)) None ≡ Some w → (4 ≤ a) × (word_at bytes (a - 4) ≡ Some w)
      by true fits there = (let h : start + 4 ≤ a = leb-true (start + 4) a fits in omega arith, there)
      by false fits there = absurd (none-some w there)

  upper_pair : r ≢ 0 → option_map (λ base. address_plus base imm / 2 * 2) (upper_before bytes a r) ≡ Some target → IsUpper bytes a r target imm
  upper_pair register e =
      let base = map_some (λ b. address_plus b imm / 2 * 2) (upper_before bytes a r) target e in
      let insn = and_then_some (upper_of (a - 4) r) (option_and_then instruction (word_before bytes a)) base.0 base.1 in
      let word = and_then_some instruction (word_before bytes a) insn.0 insn.1 in
      let start = and_then_some (λ start. cond (leb (start + 4) a) (word_at bytes (a - 4)) None) (section_start bytes a) word.0 word.1 in
      let there = low_word start.0 word.0 start.2 in
      record { base = base.0; word = word.0; insn = insn.0; register = register; low = there.0; there = there.1; is = word.2; upper = insn.2; sum = base.2 }

  pub upper_is : pair_target bytes a r imm ≡ Some target → IsUpper bytes a r target imm
  upper_is e = elim (cases_Bool (eqb r 0)) [
    | inl zero ↦ absurd (none-some target (rw zero at e))
    | inr other ↦ upper_pair (λ same. clash (sym other ∙ rw same refl)) (sym (cond-false (eqb r 0) None _ other) ∙ e)
  ]
    where
      clash : false ≡ true → ⊥
      clash e = cc

-- after its step the register holds what it leaves there
abbrev pub registers_of : RegisterFile → Outcome → RegisterFile
registers_of otherwise (Traps trap) = otherwise
registers_of otherwise (Goes state memory) = state.registers

module _ (bytes : List ℕ) (before state : State) (start memory : Bytes) (r : ℕ) (register : r ≢ 0) where
  reads : (rd value : ℕ) → eqb rd r ≡ true → held (written before.registers rd value) r ≡ value
  reads rd value same =
      let none : eqb r 0 ≡ false = not_eqb r 0 register in
      let is : eqb r rd ≡ true = eq-eqb r rd (sym (eqb-true rd r same)) in
      cond-false (eqb r 0) _ _ none ∙ cond-false (eqb r 0) _ _ none ∙ cond-true (eqb r rd) _ _ is
    where
      not_eqb : (x y : ℕ) → x ≢ y → eqb x y ≡ false
      not_eqb x y apart = elim (cases_Bool (eqb x y)) [ inl met ↦ absurd (apart (eqb-true x y met)) | inr unmet ↦ unmet ]

  sets : (at rd value base : ℕ) → cond (eqb rd r) (Some value) None ≡ Some base → state.registers ≡ written before.registers rd value → held state.registers r ≡ base
  sets at rd value base is now = by (eqb rd r) refl is
    where
      by : (b : Bool) → eqb rd r ≡ b → cond b (Some value) None ≡ Some base → held state.registers r ≡ base
      by true same e = ap (λ f. held f r) now ∙ reads rd value same ∙ same_Some value base e
      by false same e = absurd (none-some base e)

  leaves : (insn : Insn) (base : ℕ) → upper_of before.pc r insn ≡ Some base → insn_step bytes 4 insn before start ≡ Goes state memory → held state.registers r ≡ base
  leaves (insns.Lui rd imm) base upper e = sets before.pc rd (cast_unsigned w64 imm) base upper (sym (ap (registers_of before.registers) e))
  leaves (insns.Auipc rd imm) base upper e = sets before.pc rd (address_plus before.pc imm) base upper (sym (ap (registers_of before.registers) e))
  leaves insn base upper e = absurd (none-some base upper)

-- the same insn stands at an address that is written in two ways
pub same_step : (bytes : List ℕ) (before state : State) (start memory : Bytes) (length : ℕ) (insn : Insn) → placed_at bytes before.pc ≡ placed_of length insn → IsMade bytes before state start memory → insn_step bytes length insn before start ≡ Goes state memory
same_step bytes before state start memory length insn placed step =
    let is : step.insn ≡ insn = same_Some step.insn insn (sym step.stands ∙ ap (λ (p : Placed). p.insn) placed) in
    ap (λ i. insn_step bytes length i before start) (sym is)
    ∙ ap (λ n. insn_step bytes n step.insn before start) (sym (ap (λ (p : Placed). p.length) placed)) ∙ step.makes

-- right after the step at its other half, the register of the pair leads to the target of the pair
pub pair_goes : (bytes : List ℕ) (before state : State) (start memory : Bytes) (pair : IsPaired bytes state.pc) → before.pc + 4 ≡ state.pc → StepsTo bytes before start state memory
    → address_plus (held state.registers pair.rs1) pair.imm / 2 * 2 ≡ pair.target
pair_goes bytes before state start memory pair right_before first =
    let placed = subst (λ a. placed_at bytes a ≡ placed_of 4 upper.insn) at (word_placed bytes (state.pc - 4) upper.word upper.insn upper.there upper.is) in
    let step = same_step bytes before state start memory 4 upper.insn placed (made bytes before state start memory first) in
    let base = leaves bytes before state start memory pair.rs1 upper.register upper.insn upper.base (subst (λ a. upper_of a pair.rs1 upper.insn ≡ Some upper.base) at upper.upper) step in
    ap (λ x. address_plus x pair.imm / 2 * 2) base ∙ upper.sum
  where
    at : state.pc - 4 ≡ before.pc
    at = omega arith

    upper : IsUpper bytes state.pc pair.rs1 pair.target pair.imm
    upper = upper_is bytes state.pc pair.rs1 pair.target pair.imm pair.pair

pub pairs_are_covered : PairsAreCovered
pairs_are_covered bytes cuts seeds outline of before state after start memory left reached pair right_before first steps move is =
    let step = made bytes state after memory left steps in
    step_covered bytes cuts seeds outline of state after memory left reached step
    (holds step.insn step.stands) not_table move is
  where
    jalr : Insn
    jalr = insns.Jalr pair.rd pair.rs1 pair.imm

    goes : address_plus (held state.registers pair.rs1) pair.imm / 2 * 2 ≡ pair.target
    goes = pair_goes bytes before state start memory pair right_before first

    holds : (insn : Insn) → (placed_at bytes state.pc).insn ≡ Some insn → PairHolds bytes state insn
    holds insn stands = subst (PairHolds bytes state) (same_Some jalr insn (sym pair.jumps ∙ stands)) (λ target same. goes ∙ same_Some pair.target target (sym pair.pair ∙ same))

    no_table : (kept : List ℕ) (behind to : ℕ) (cut : Option ℕ) (o : Option Table) (b : Bool) → TableFollows bytes kept behind to cut o (cond b (raw.Jump pair.target) (raw.Call pair.target))
    no_table kept behind to cut None true = tt
    no_table kept behind to cut None false = tt
    no_table kept behind to cut (Some table) true = tt
    no_table kept behind to cut (Some table) false = tt

    alone : raw_flow_by bytes state.pc (placed_at bytes state.pc).insn ≡ cond (eqb pair.rd 0) (raw.Jump pair.target) (raw.Call pair.target)
    alone = ap (raw_flow_by bytes state.pc) pair.jumps ∙ ap (jalr_flow pair.rd pair.rs1 pair.imm) pair.pair

    not_table : TableFollows bytes (targets_at (program_under bytes cuts) state.pc) (state.pc + (placed_at bytes state.pc).length) after.pc (cuts state.pc) (table_at bytes state.pc) (raw_flow_by bytes state.pc (placed_at bytes state.pc).insn)
    not_table =
        subst (TableFollows bytes (targets_at (program_under bytes cuts) state.pc) (state.pc + (placed_at bytes state.pc).length) after.pc (cuts state.pc) (table_at bytes state.pc)) (sym alone)
        (no_table (targets_at (program_under bytes cuts) state.pc) (state.pc + (placed_at bytes state.pc).length) after.pc (cuts state.pc) (table_at bytes state.pc) (eqb pair.rd 0))
