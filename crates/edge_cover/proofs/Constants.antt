-- No ADDI of 32 bits that sets a register to a constant ends with a halfword that is one of 16 bits.
use Rattle.std.proofs.Common.{◌≡◌, ◌≢◌, ℕ, ◌^◌, ◌<◌, Bool, true, false, cond, List, [], ◌∷◌, Option, Some, None, eqb, refl, sym, ◌∙◌, subst, arith}
use Rattle.std.specs.Prelude.{ℤ, ◌&&◌}
use Rattle.std.specs.Option.{option_and_then, option_or}
use Rattle.std.proofs.lemmas.Bool.{eqb-true, and_parts}
use Rattle.std.proofs.lemmas.Option.{same_Some, none-some}
use Rattle.rv_decode.specs.Fields as fields
use Rattle.rv_decode.specs.Table.{Row, holds, first_meaning, instruction, rows, upper_rows, jump_rows, branch_rows, load_rows, store_rows, imm_rows, imm_w_rows, reg_rows, reg_w_rows, atomic_rows_of, atomic_rows, fence_rows, system_rows}
use Rattle.rv_decode.specs.declared.instructions.Insn.{Insn}
use Rattle.rv_decode.specs.declared.instructions.Insn.TheVariants as insns
use Rattle.rv_decode.specs.declared.instructions.ImmKind.TheVariants as imms
use Rattle.rvc_expand.specs.Bits as bits
use Rattle.rvc_expand.specs.Table.{Form, first_word, quadrant_0, expansion, stack_pointer}
use Rattle.rvc_expand.specs.Halfword.{first_popular, second_popular, first_register, second_register, addi4spn_immediate, word_offset, double_offset, ldsp_offset, sdsp_offset}
use Rattle.rvc_expand.proofs.Quadrants.{expansion-quadrant_0}
use Rattle.rvc_expand.proofs.FieldsRead.{i_type-opcode, i_type-rs1, s_type-opcode}
use Rattle.rv_float.specs.Table as float
use Rattle.rv_float.specs.Forms.{float_forms, float_expansion}
use Rattle.elf_image.specs.declared.extensions.Extensions.{Extensions}
use Rattle.rv_extensions.specs.Forms.{takes_doubles}
use Rattle.rv_flow.specs.Placed.{float_insn, float_form, expanded, rv64gc_insn}
use Rattle.edge_cover.proofs.Pairs.{and_then_some}
use Rattle.edge_cover.proofs.Tested.{sets}

-- ---- an ADDI has opcode 13, and its register stands in rs1

abbrev pub Says : ℕ → Insn → Type 0
Says w (insns.Imm imms.Addi rd rs1 imm) = (fields.opcode w ≡ 0x13) × (rs1 ≡ fields.rs1 w)
Says w _ = Unit {0}

-- the same of each row of the table that means one
abbrev WithRow : ℕ → Row → Insn → Type 0 → Type 0
WithRow w r (insns.Imm imms.Addi rd rs1 imm) rest = (holds r w ≡ true → (fields.opcode w ≡ 0x13) × (rs1 ≡ fields.rs1 w)) × rest
WithRow w r _ rest = rest

abbrev AllSay : ℕ → List Row → Type 0
AllSay w [] = Unit {0}
AllSay w (r ∷ rs) = WithRow w r (r.meaning w) (AllSay w rs)

says_here : (w : ℕ) (r : Row) (insn : Insn) (rest : Type 0) → WithRow w r insn rest → holds r w ≡ true → Says w insn
says_here w r (insns.Imm imms.Addi rd rs1 imm) rest all held = all.0 held
says_here w r insn rest all held = tt

says_later : (w : ℕ) (r : Row) (insn : Insn) (rest : Type 0) → WithRow w r insn rest → rest
says_later w r (insns.Imm imms.Addi rd rs1 imm) rest all = all.1
says_later w r insn rest all = all

says_first : (w : ℕ) (rs : List Row) → AllSay w rs → (insn : Insn) → first_meaning rs w ≡ Some insn → Says w insn
says_first w [] all insn e = absurd (none-some insn e)
says_first w (r ∷ rs) all insn e = by (λ further. says_first w rs (says_later w r (r.meaning w) (AllSay w rs) all) insn further) (holds r w) refl e
  where
    by : (first_meaning rs w ≡ Some insn → Says w insn) → (b : Bool) → holds r w ≡ b → cond b (Some (r.meaning w)) (first_meaning rs w) ≡ Some insn → Says w insn
    by later true held here = subst (Says w) (same_Some (r.meaning w) insn here) (says_here w r (r.meaning w) (AllSay w rs) all held)
    by later false held further = later further

by_opcode : (w : ℕ) (others : Bool) → (eqb (fields.opcode w) 0x13) && others ≡ true → (fields.opcode w ≡ 0x13) × (fields.rs1 w ≡ fields.rs1 w)
by_opcode w others h = (eqb-true (fields.opcode w) 0x13 (and_parts (eqb (fields.opcode w) 0x13) others h).0, refl)

all_say : (w : ℕ) → AllSay w rows
unfolding rows upper_rows jump_rows branch_rows load_rows store_rows imm_rows imm_w_rows reg_rows reg_w_rows atomic_rows_of atomic_rows fence_rows system_rows
all_say w = (by_opcode w _, tt)

pub instruction_says : (w : ℕ) (insn : Insn) → instruction w ≡ Some insn → Says w insn
unfolding instruction
instruction_says w insn is = says_first w rows (all_say w) insn is

-- ---- no instruction of the float table is an ADDI

abbrev pub IsNoAddi : Insn → Type 0
IsNoAddi (insns.Imm imms.Addi rd rs1 imm) = ⊥
IsNoAddi _ = Unit {0}

abbrev NoAddi : Insn → Type 0 → Type 0
NoAddi (insns.Imm imms.Addi rd rs1 imm) rest = ⊥
NoAddi _ rest = rest

abbrev NoneAdds : ℕ → List float.Row → Type 0
NoneAdds w [] = Unit {0}
NoneAdds w (r ∷ rs) = NoAddi (r.meaning w) (NoneAdds w rs)

none_here : (insn : Insn) (rest : Type 0) → NoAddi insn rest → IsNoAddi insn
none_here (insns.Imm imms.Addi rd rs1 imm) rest all = all
none_here insn rest all = tt

none_later : (insn : Insn) (rest : Type 0) → NoAddi insn rest → rest
none_later (insns.Imm imms.Addi rd rs1 imm) rest all = absurd all
none_later insn rest all = all

none_first : (w : ℕ) (rs : List float.Row) → NoneAdds w rs → (insn : Insn) → float.first_meaning rs w ≡ Some insn → IsNoAddi insn
none_first w [] all insn e = absurd (none-some insn e)
none_first w (r ∷ rs) all insn e = by (λ further. none_first w rs (none_later (r.meaning w) (NoneAdds w rs) all) insn further) (r.holds w) e
  where
    by : (float.first_meaning rs w ≡ Some insn → IsNoAddi insn) → (b : Bool) → cond b (Some (r.meaning w)) (float.first_meaning rs w) ≡ Some insn → IsNoAddi insn
    by later true here = subst IsNoAddi (same_Some (r.meaning w) insn here) (none_here (r.meaning w) (NoneAdds w rs) all)
    by later false further = later further

none_adds : (w : ℕ) → NoneAdds w float.float_rows
unfolding float.float_rows float.memory_rows float.fused_rows float.operation_rows
none_adds w = tt

float_none : (w : ℕ) (insn : Insn) → float.float_instruction w ≡ Some insn → IsNoAddi insn
unfolding float.float_instruction
float_none w insn is = none_first w float.float_rows (none_adds w) insn is

-- a word that sets a register to a constant
pub record IsConstantWord (w : ℕ) : Type 0 where
  pub code : fields.opcode w ≡ 0x13
  pub from_zero : fields.rs1 w ≡ 0

left_none : (b : Bool) (w : ℕ) (insn : Insn) → cond b None (float.float_instruction w) ≡ Some insn → IsNoAddi insn
left_none true w insn is = absurd (none-some insn is)
left_none false w insn is = float_none w insn is

pub word_of_constant : (e : Extensions) (w r : ℕ) (constant : ℤ) → rv64gc_insn e w ≡ Some (sets r constant) → IsConstantWord w
word_of_constant e w r constant is = by (instruction w) refl is
  where
    by : (o : Option Insn) → instruction w ≡ o → option_or o (float_insn e w) ≡ Some (sets r constant) → IsConstantWord w
    by (Some insn) decoded same =
        let says : Says w (sets r constant) = instruction_says w (sets r constant) (decoded ∙ same) in
        record { code = says.0; from_zero = sym says.1 }
    by None decoded same = absurd (left_none e.zfinx w (sets r constant) same)

-- ---- a 16-bit form of quadrant 0 stands for no such word

-- an ADDI of quadrant 0 adds to the stack pointer
AddsToStack : ℕ → Type 0
AddsToStack w = fields.opcode w ≡ 0x13 → fields.rs1 w ≡ 2

abbrev AllForms : (ℕ → ℕ → Type 0) → List Form → Type 0
AllForms P [] = Unit {0}
AllForms P (f ∷ fs) = ((h : ℕ) → f.holds h ≡ true → P h (f.word h)) × AllForms P fs

first_form : (P : ℕ → ℕ → Type 0) (fs : List Form) → AllForms P fs → (h w : ℕ) → first_word fs h ≡ Some w → P h w
first_form P [] all h w e = absurd (none-some w e)
first_form P (f ∷ fs) all h w e = by (λ further. first_form P fs all.1 h w further) (f.holds h) refl e
  where
    by : (first_word fs h ≡ Some w → P h w) → (b : Bool) → f.holds h ≡ b → cond b (Some (f.word h)) (first_word fs h) ≡ Some w → P h w
    by later true held here = subst (P h) (same_Some (f.word h) w here) (all.0 h held)
    by later false held further = later further

not_thirteen : (w code : ℕ) → fields.opcode w ≡ code → code ≢ 0x13 → AddsToStack w
unfolding AddsToStack
not_thirteen w code is other thirteen = absurd (other (sym is ∙ thirteen))

popular : (h : ℕ) → second_popular h < 2 ^ 5
popular h = omega arith

of_quadrant_0 : AllForms (λ h w. AddsToStack w) quadrant_0
unfolding quadrant_0 AddsToStack
of_quadrant_0 = (
  λ h held thirteen. i_type-rs1 0x13 0 (second_popular h) stack_pointer (addi4spn_immediate h) (omega arith) (popular h) (omega arith) (omega arith),
  (
    λ h held. not_thirteen _ 0x03 (i_type-opcode 0x03 2 (second_popular h) (first_popular h) (word_offset h) (omega arith)) (λ e. cc),
    (
      λ h held. not_thirteen _ 0x03 (i_type-opcode 0x03 3 (second_popular h) (first_popular h) (double_offset h) (omega arith)) (λ e. cc),
      (
        λ h held. not_thirteen _ 0x23 (s_type-opcode 0x23 2 (first_popular h) (second_popular h) (word_offset h) (omega arith)) (λ e. cc),
        (λ h held. not_thirteen _ 0x23 (s_type-opcode 0x23 3 (first_popular h) (second_popular h) (double_offset h) (omega arith)) (λ e. cc), tt),
      ),
    ),
  ),
)

of_floats : AllForms (λ h w. AddsToStack w) float_forms
unfolding float_forms AddsToStack
of_floats = (
  λ h held. not_thirteen _ 0x07 (i_type-opcode 0x07 3 (second_popular h) (first_popular h) (double_offset h) (omega arith)) (λ e. cc),
  (
    λ h held. not_thirteen _ 0x27 (s_type-opcode 0x27 3 (first_popular h) (second_popular h) (double_offset h) (omega arith)) (λ e. cc),
    (
      λ h held. not_thirteen _ 0x07 (i_type-opcode 0x07 3 (first_register h) stack_pointer (ldsp_offset h) (omega arith)) (λ e. cc),
      (λ h held. not_thirteen _ 0x27 (s_type-opcode 0x27 3 stack_pointer (second_register h) (sdsp_offset h) (omega arith)) (λ e. cc), tt),
    ),
  ),
)

expanded_adds : (e : Extensions) (h w : ℕ) → bits.field h 1 0 ≡ 0 → expanded e h ≡ Some w → AddsToStack w
unfolding float_expansion
expanded_adds e h w low is = by (expansion h) refl is
  where
    left : (b : Bool) → cond b None (float_expansion h) ≡ Some w → AddsToStack w
    left true same = absurd (none-some w same)
    left false same = first_form (λ h w. AddsToStack w) float_forms of_floats h w same

    by : (o : Option ℕ) → expansion h ≡ o → option_or o (float_form e h) ≡ Some w → AddsToStack w
    by (Some word) found same = first_form (λ h w. AddsToStack w) quadrant_0 of_quadrant_0 h w (sym (expansion-quadrant_0 h low) ∙ found ∙ same)
    by None found same = left (takes_doubles e) same

pub no_constant : (e : Extensions) (h r : ℕ) (constant : ℤ) → bits.field h 1 0 ≡ 0 → option_and_then (rv64gc_insn e) (expanded e h) ≡ Some (sets r constant) → ⊥
unfolding AddsToStack
no_constant e h r constant low is =
    let word = and_then_some (rv64gc_insn e) (expanded e h) (sets r constant) is in
    let found = word_of_constant e word.0 r constant word.2 in
    let adds : AddsToStack word.0 = expanded_adds e h word.0 low word.1 in
    clash (sym (adds found.code) ∙ found.from_zero)
  where
    clash : ◌≡◌ {A = ℕ} 2 0 → ⊥
    clash e = cc
