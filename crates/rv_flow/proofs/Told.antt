-- What the opcode of a word tells of it in the base table and in the float table.
use Rattle.std.proofs.Common.{◌≡◌, ◌≢◌, ℕ, ◌<◌, ◌≤◌, ◌==◌, ◌⊎◌, inl, inr, Bool, true, false, not, ◌&&◌, cond, [], ◌∷◌, Option, Some, None, refl, ap, ◌∙◌, arith}
use Rattle.std.proofs.lemmas.Bool.{ne_eqb, cases_Bool}
use Rattle.std.proofs.lemmas.Bool.Decides.{nat_tests}
use Rattle.rv_decode.specs.Fields.{opcode, funct3, funct6, funct7}
use Rattle.rv_decode.specs.Table.{instruction}
use Rattle.rv_decode.specs.declared.instructions.Insn.{Insn}
use Rattle.rv_decode.proofs.ByOpcode.{lui_is, auipc_is, jal_is, jalr_cases, branch_cases, load_cases, store_cases, imm_cases, imm_w_cases, base_cases, negated_cases, multiply_cases, reg_none, opcode_none}
use Rattle.rv_float.specs.Table.{float_instruction, float_rows, memory_rows, fused_rows, operation_rows, is_among, from_integer}
use Rattle.elf_image.specs.declared.extensions.Extensions.{Extensions}
use Rattle.rv_flow.specs.Placed.{float_insn}
use Rattle.rv_flow.specs.Inner.{goes_on, goes_on_behind}

-- a load or a store of the float table, by its width
load_is : (w : ℕ) → opcode w ≡ 0x07 → float_instruction w ≡ cond (is_among (2 ∷ 3 ∷ []) (funct3 w)) (Some (from_integer w)) None
unfolding float_instruction float_rows memory_rows fused_rows operation_rows
load_is w is = rw is refl

store_is : (w : ℕ) → opcode w ≡ 0x27 → float_instruction w ≡ cond (is_among (2 ∷ 3 ∷ []) (funct3 w)) (Some (from_integer w)) None
unfolding float_instruction float_rows memory_rows fused_rows operation_rows
store_is w is = rw is refl

-- no word of these opcodes is one of the float table
pub no_float_03 : (w : ℕ) → opcode w ≡ 0x03 → float_instruction w ≡ None
unfolding float_instruction float_rows memory_rows fused_rows operation_rows
no_float_03 w is = rw is refl

pub no_float_13 : (w : ℕ) → opcode w ≡ 0x13 → float_instruction w ≡ None
unfolding float_instruction float_rows memory_rows fused_rows operation_rows
no_float_13 w is = rw is refl

pub no_float_23 : (w : ℕ) → opcode w ≡ 0x23 → float_instruction w ≡ None
unfolding float_instruction float_rows memory_rows fused_rows operation_rows
no_float_23 w is = rw is refl

pub no_float_33 : (w : ℕ) → opcode w ≡ 0x33 → float_instruction w ≡ None
unfolding float_instruction float_rows memory_rows fused_rows operation_rows
no_float_33 w is = rw is refl

pub no_float_63 : (w : ℕ) → opcode w ≡ 0x63 → float_instruction w ≡ None
unfolding float_instruction float_rows memory_rows fused_rows operation_rows
no_float_63 w is = rw is refl

pub no_float_6F : (w : ℕ) → opcode w ≡ 0x6F → float_instruction w ≡ None
unfolding float_instruction float_rows memory_rows fused_rows operation_rows
no_float_6F w is = rw is refl

pub no_float_67 : (w : ℕ) → opcode w ≡ 0x67 → float_instruction w ≡ None
unfolding float_instruction float_rows memory_rows fused_rows operation_rows
no_float_67 w is = rw is refl

-- what is none of the float table is none that the extensions leave of it
pub no_floats : (e : Extensions) (w : ℕ) → float_instruction w ≡ None → float_insn e w ≡ None
no_floats e w none = elim (cases_Bool e.zfinx) [
  | inl on ↦ rw on refl
  | inr off ↦ rw off none
]

-- ---- by the opcode

pub lui_goes : (w : ℕ) → opcode w ≡ 0x37 → goes_on_behind (instruction w) ≡ true
lui_goes w h = ap goes_on_behind (lui_is w h)

pub auipc_goes : (w : ℕ) → opcode w ≡ 0x17 → goes_on_behind (instruction w) ≡ true
auipc_goes w h = ap goes_on_behind (auipc_is w h)

pub jal_stops : (w : ℕ) → opcode w ≡ 0x6F → goes_on_behind (instruction w) ≡ false
jal_stops w h = ap goes_on_behind (jal_is w h)

-- a choice of which nothing goes on
neither : (b : Bool) (i : Insn) (o : Option Insn) → goes_on i ≡ false → goes_on_behind o ≡ false → goes_on_behind (cond b (Some i) o) ≡ false
neither true i o stops rest = stops
neither false i o stops rest = rest

pub jalr_stops : (w : ℕ) → opcode w ≡ 0x67 → goes_on_behind (instruction w) ≡ false
jalr_stops w h =
    ap goes_on_behind (jalr_cases w h)
    ∙ neither (funct3 w == 0) _ _ refl refl

pub branch_stops : (w : ℕ) → opcode w ≡ 0x63 → goes_on_behind (instruction w) ≡ false
branch_stops w h =
    ap goes_on_behind (branch_cases w h)
    ∙ neither (funct3 w == 0) _ _ refl (neither (funct3 w == 1) _ _ refl (neither (funct3 w == 4) _ _ refl (neither (funct3 w == 5) _ _ refl (neither (funct3 w == 6) _ _ refl (neither (funct3 w == 7) _ _ refl refl)))))

pub load_goes : (w : ℕ) → opcode w ≡ 0x03 → goes_on_behind (instruction w) ≡ not (funct3 w == 7)
load_goes w h =
    ap goes_on_behind (load_cases w h)
    ∙ grind (arith, nat_tests)

pub store_goes : (w : ℕ) → opcode w ≡ 0x23 → funct3 w < 4 → goes_on_behind (instruction w) ≡ true
store_goes w h low =
    ap goes_on_behind (store_cases w h)
    ∙ grind (arith, nat_tests)

pub store_none : (w : ℕ) → opcode w ≡ 0x23 → 4 ≤ funct3 w → goes_on_behind (instruction w) ≡ false
store_none w h high =
    ap goes_on_behind (store_cases w h)
    ∙ grind (arith, nat_tests)

pub imm_goes : (w : ℕ) → opcode w ≡ 0x13 → funct3 w ≢ 1 → funct3 w ≢ 5 → goes_on_behind (instruction w) ≡ true
imm_goes w h left right = ap goes_on_behind (imm_cases w h) ∙ grind (arith, nat_tests)

pub shift_left_goes : (w : ℕ) → opcode w ≡ 0x13 → funct3 w ≡ 1 → goes_on_behind (instruction w) ≡ (funct6 w == 0)
shift_left_goes w h left =
    ap goes_on_behind (imm_cases w h)
    ∙ grind (arith, nat_tests)

pub shift_right_goes : (w : ℕ) → opcode w ≡ 0x13 → funct3 w ≡ 5 → funct6 w ≡ 0 → goes_on_behind (instruction w) ≡ true
shift_right_goes w h right six = ap goes_on_behind (imm_cases w h) ∙ rw (right, six) refl

pub shift_signed_goes : (w : ℕ) → opcode w ≡ 0x13 → funct3 w ≡ 5 → funct6 w ≡ 16 → goes_on_behind (instruction w) ≡ true
shift_signed_goes w h right six = ap goes_on_behind (imm_cases w h) ∙ rw (right, six) refl

pub no_shift : (w : ℕ) → opcode w ≡ 0x13 → funct3 w ≡ 5 → funct6 w ≢ 0 → funct6 w ≢ 16 → goes_on_behind (instruction w) ≡ false
no_shift w h right zero sixteen =
    ap goes_on_behind (imm_cases w h)
    ∙ grind (arith, nat_tests)

pub addiw_goes : (w : ℕ) → opcode w ≡ 0x1B → funct3 w ≡ 0 → goes_on_behind (instruction w) ≡ true
addiw_goes w h zero = ap goes_on_behind (imm_w_cases w h) ∙ rw zero refl

pub base_goes : (w : ℕ) → opcode w ≡ 0x33 → funct7 w ≡ 0 → goes_on_behind (instruction w) ≡ true
base_goes w h zero = ap goes_on_behind (base_cases w h zero) ∙ grind (arith, nat_tests)

pub multiply_goes : (w : ℕ) → opcode w ≡ 0x33 → funct7 w ≡ 1 → goes_on_behind (instruction w) ≡ true
multiply_goes w h one = ap goes_on_behind (multiply_cases w h one) ∙ grind (arith, nat_tests)

pub negated_goes : (w : ℕ) → opcode w ≡ 0x33 → funct7 w ≡ 0x20 → (funct3 w ≡ 0) ⊎ (funct3 w ≡ 5) → goes_on_behind (instruction w) ≡ true
negated_goes w h is (inl sub) = ap goes_on_behind (negated_cases w h is) ∙ rw sub refl
negated_goes w h is (inr sra) = ap goes_on_behind (negated_cases w h is) ∙ rw sra refl

pub negated_none : (w : ℕ) → opcode w ≡ 0x33 → funct7 w ≡ 0x20 → funct3 w ≢ 0 → funct3 w ≢ 5 → goes_on_behind (instruction w) ≡ false
negated_none w h is sub sra = ap goes_on_behind (negated_cases w h is) ∙ rw (ne_eqb _ _ sub, ne_eqb _ _ sra) refl

pub reg_stops : (w : ℕ) → opcode w ≡ 0x33 → funct7 w ≢ 0 → funct7 w ≢ 1 → funct7 w ≢ 0x20 → goes_on_behind (instruction w) ≡ false
reg_stops w h zero one negated = ap goes_on_behind (reg_none w h zero negated one)

-- no word of these opcodes is one of the base table
no_base : (w o : ℕ) → opcode w ≡ o → ((k : ℕ) → o ≢ k → opcode w ≢ k)
no_base w o is k ne = rw is ne

pub no_load : (w : ℕ) → opcode w ≡ 0x07 → instruction w ≡ None
no_load w h =
    opcode_none w (no_base w 0x07 h 0x37 (omega arith)) (no_base w 0x07 h 0x17 (omega arith)) (no_base w 0x07 h 0x6F (omega arith)) (no_base w 0x07 h 0x67 (omega arith))
    (no_base w 0x07 h 0x63 (omega arith)) (no_base w 0x07 h 0x03 (omega arith)) (no_base w 0x07 h 0x23 (omega arith)) (no_base w 0x07 h 0x13 (omega arith))
    (no_base w 0x07 h 0x1B (omega arith)) (no_base w 0x07 h 0x33 (omega arith)) (no_base w 0x07 h 0x3B (omega arith)) (no_base w 0x07 h 0x2F (omega arith))
    (no_base w 0x07 h 0x0F (omega arith)) (no_base w 0x07 h 0x73 (omega arith))

pub no_store : (w : ℕ) → opcode w ≡ 0x27 → instruction w ≡ None
no_store w h =
    opcode_none w (no_base w 0x27 h 0x37 (omega arith)) (no_base w 0x27 h 0x17 (omega arith)) (no_base w 0x27 h 0x6F (omega arith)) (no_base w 0x27 h 0x67 (omega arith))
    (no_base w 0x27 h 0x63 (omega arith)) (no_base w 0x27 h 0x03 (omega arith)) (no_base w 0x27 h 0x23 (omega arith)) (no_base w 0x27 h 0x13 (omega arith))
    (no_base w 0x27 h 0x1B (omega arith)) (no_base w 0x27 h 0x33 (omega arith)) (no_base w 0x27 h 0x3B (omega arith)) (no_base w 0x27 h 0x2F (omega arith))
    (no_base w 0x27 h 0x0F (omega arith)) (no_base w 0x27 h 0x73 (omega arith))

-- a load or a store of the float table goes on where the extensions leave it
left_goes : (e : Extensions) (w : ℕ) (b : Bool) (i : Insn) → goes_on i ≡ true → float_instruction w ≡ cond b (Some i) None → goes_on_behind (float_insn e w) ≡ (not e.zfinx && b)
left_goes e w true i goes is = elim (cases_Bool e.zfinx) [
  | inl on ↦ rw on refl
  | inr off ↦ rw (off, is) goes
]
left_goes e w false i goes is = elim (cases_Bool e.zfinx) [
  | inl on ↦ rw on refl
  | inr off ↦ rw (off, is) refl
]

pub float_load_goes : (e : Extensions) (w : ℕ) → opcode w ≡ 0x07 → goes_on_behind (float_insn e w) ≡ (not e.zfinx && is_among (2 ∷ 3 ∷ []) (funct3 w))
float_load_goes e w h = left_goes e w (is_among (2 ∷ 3 ∷ []) (funct3 w)) (from_integer w) refl (load_is w h)

pub float_store_goes : (e : Extensions) (w : ℕ) → opcode w ≡ 0x27 → goes_on_behind (float_insn e w) ≡ (not e.zfinx && is_among (2 ∷ 3 ∷ []) (funct3 w))
float_store_goes e w h = left_goes e w (is_among (2 ∷ 3 ∷ []) (funct3 w)) (from_integer w) refl (store_is w h)

pub no_float_0B : (w : ℕ) → opcode w ≡ 0x0B → float_instruction w ≡ None
unfolding float_instruction float_rows memory_rows fused_rows operation_rows
no_float_0B w is = rw is refl

pub no_float_2B : (w : ℕ) → opcode w ≡ 0x2B → float_instruction w ≡ None
unfolding float_instruction float_rows memory_rows fused_rows operation_rows
no_float_2B w is = rw is refl

pub no_float_57 : (w : ℕ) → opcode w ≡ 0x57 → float_instruction w ≡ None
unfolding float_instruction float_rows memory_rows fused_rows operation_rows
no_float_57 w is = rw is refl

pub no_float_5B : (w : ℕ) → opcode w ≡ 0x5B → float_instruction w ≡ None
unfolding float_instruction float_rows memory_rows fused_rows operation_rows
no_float_5B w is = rw is refl

pub no_float_6B : (w : ℕ) → opcode w ≡ 0x6B → float_instruction w ≡ None
unfolding float_instruction float_rows memory_rows fused_rows operation_rows
no_float_6B w is = rw is refl

pub no_float_77 : (w : ℕ) → opcode w ≡ 0x77 → float_instruction w ≡ None
unfolding float_instruction float_rows memory_rows fused_rows operation_rows
no_float_77 w is = rw is refl

pub no_float_7B : (w : ℕ) → opcode w ≡ 0x7B → float_instruction w ≡ None
unfolding float_instruction float_rows memory_rows fused_rows operation_rows
no_float_7B w is = rw is refl

-- an opcode that the base table does not have
no_insn : (w o : ℕ) → opcode w ≡ o
    → o ≢ 0x37 → o ≢ 0x17 → o ≢ 0x6F → o ≢ 0x67 → o ≢ 0x63 → o ≢ 0x03 → o ≢ 0x23 → o ≢ 0x13 → o ≢ 0x1B → o ≢ 0x33 → o ≢ 0x3B → o ≢ 0x2F → o ≢ 0x0F → o ≢ 0x73 → instruction w ≡ None
no_insn w o h n37 n17 n6F n67 n63 n03 n23 n13 n1B n33 n3B n2F n0F n73 =
    opcode_none w (no_base w o h 0x37 n37) (no_base w o h 0x17 n17) (no_base w o h 0x6F n6F) (no_base w o h 0x67 n67) (no_base w o h 0x63 n63) (no_base w o h 0x03 n03) (no_base w o h 0x23 n23) (no_base w o h 0x13 n13) (no_base w o h 0x1B n1B) (no_base w o h 0x33 n33) (no_base w o h 0x3B n3B) (no_base w o h 0x2F n2F) (no_base w o h 0x0F n0F) (no_base w o h 0x73 n73)

pub no_base_insn : (w : ℕ) → (opcode w ≡ 0x0B) ⊎ ((opcode w ≡ 0x2B) ⊎ ((opcode w ≡ 0x5B) ⊎ ((opcode w ≡ 0x7B) ⊎ ((opcode w ≡ 0x57) ⊎ ((opcode w ≡ 0x6B) ⊎ (opcode w ≡ 0x77)))))) → instruction w ≡ None
no_base_insn w (inl h) = no_insn w 0x0B h (omega arith) (omega arith) (omega arith) (omega arith) (omega arith) (omega arith) (omega arith) (omega arith) (omega arith) (omega arith) (omega arith) (omega arith) (omega arith) (omega arith)
no_base_insn w (inr (inl h)) = no_insn w 0x2B h (omega arith) (omega arith) (omega arith) (omega arith) (omega arith) (omega arith) (omega arith) (omega arith) (omega arith) (omega arith) (omega arith) (omega arith) (omega arith) (omega arith)
no_base_insn w (inr (inr (inl h))) = no_insn w 0x5B h (omega arith) (omega arith) (omega arith) (omega arith) (omega arith) (omega arith) (omega arith) (omega arith) (omega arith) (omega arith) (omega arith) (omega arith) (omega arith) (omega arith)
no_base_insn w (inr (inr (inr (inl h)))) = no_insn w 0x7B h (omega arith) (omega arith) (omega arith) (omega arith) (omega arith) (omega arith) (omega arith) (omega arith) (omega arith) (omega arith) (omega arith) (omega arith) (omega arith) (omega arith)
no_base_insn w (inr (inr (inr (inr (inl h))))) = no_insn w 0x57 h (omega arith) (omega arith) (omega arith) (omega arith) (omega arith) (omega arith) (omega arith) (omega arith) (omega arith) (omega arith) (omega arith) (omega arith) (omega arith) (omega arith)
no_base_insn w (inr (inr (inr (inr (inr (inl h)))))) = no_insn w 0x6B h (omega arith) (omega arith) (omega arith) (omega arith) (omega arith) (omega arith) (omega arith) (omega arith) (omega arith) (omega arith) (omega arith) (omega arith) (omega arith) (omega arith)
no_base_insn w (inr (inr (inr (inr (inr (inr h)))))) = no_insn w 0x77 h (omega arith) (omega arith) (omega arith) (omega arith) (omega arith) (omega arith) (omega arith) (omega arith) (omega arith) (omega arith) (omega arith) (omega arith) (omega arith) (omega arith)
