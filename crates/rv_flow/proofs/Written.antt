-- The fields of a written word are those that it was written from, so the row that holds of it gives them
-- back.
use Rattle.std.proofs.Common.{◌≡◌, ℕ, ◌+◌, ◌<◌, ◌%◌, ◌^◌, Some, ℤ, pos, ap, ◌∙◌, arith}
use Rattle.rv_decode.specs.Fields.{opcode, rd, funct3, funct6, funct7, rs1, rs2, sign_extended, shift_amount, i_immediate, s_immediate, b_offset}
use Rattle.rv_decode.specs.Table.{instruction}
use Rattle.rv_decode.specs.declared.instructions.Insn.{Insn}
use Rattle.rv_decode.specs.declared.instructions.Insn.TheVariants.{Lui, Jal, Jalr, Branch, Load, Store, Imm, ImmW, Reg, RegW, Ebreak}
use Rattle.rv_decode.specs.declared.instructions.BranchKind.TheVariants.{Beq, Bne}
use Rattle.rv_decode.specs.declared.instructions.LoadKind.TheVariants.{Lw, Ld}
use Rattle.rv_decode.specs.declared.instructions.StoreKind.TheVariants.{Sw, Sd}
use Rattle.rv_decode.specs.declared.instructions.ImmKind.TheVariants.{Addi, Andi, Slli, Srli, Srai}
use Rattle.rv_decode.specs.declared.instructions.ImmWKind.TheVariants.{Addiw}
use Rattle.rv_decode.specs.declared.instructions.RegKind.TheVariants.{Add, Sub, Xor, Or, And}
use Rattle.rv_decode.specs.declared.instructions.RegWKind.TheVariants.{Addw, Subw}
use Rattle.rv_decode.proofs.ByOpcode.{lui_is, jal_is, ebreak_is}
use Rattle.rv_decode.proofs.ByFields.{jalr_is, beq_is, bne_is, lw_is, ld_is, sw_is, sd_is, addi_is, andi_is, slli_is, srli_is, srai_is, addiw_is, add_is, xor_is, or_is, and_is, sub_is, addw_is, subw_is}
use Rattle.rvc_expand.specs.Bits.{field}
use Rattle.rvc_expand.specs.Formats.{r_type, i_type, s_type, b_type, u_type, j_type}
use Rattle.rvc_expand.proofs.FieldsRead.{r_type-opcode, r_type-rd, r_type-funct3, r_type-rs1, r_type-rs2, r_type-funct7, i_type-opcode, i_type-rd, i_type-funct3, i_type-rs1, i_type-immediate, i_type-amount, i_type-funct6, s_type-opcode, s_type-funct3, s_type-rs1, s_type-rs2, s_type-immediate, b_type-opcode, b_type-funct3, b_type-rs1, b_type-rs2, b_type-offset, u_type-opcode, u_type-rd, u_type-immediate, j_type-opcode, j_type-rd, j_type-offset}
use Rattle.rv_flow.specs.Laws.{EachWordIsItsInstruction}

-- two parts of an instruction at once, or three
two_parts : {A B : Type 0} (make : A → B → Insn) (a a' : A) (b b' : B) → a ≡ a' → b ≡ b' → Some (make a b) ≡ Some (make a' b')
two_parts make a a' b b' p q = cc

three_parts : {A B C : Type 0} (make : A → B → C → Insn) (a a' : A) (b b' : B) (c c' : C) → a ≡ a' → b ≡ b' → c ≡ c' → Some (make a b c) ≡ Some (make a' b' c')
three_parts make a a' b b' c c' p q r = cc

-- ---- the formats

r_type_is : (o f3 f7 d s t : ℕ) (make : ℕ → ℕ → ℕ → Insn) → o < 2 ^ 7 → f3 < 2 ^ 3 → f7 < 2 ^ 7 → d < 2 ^ 5 → s < 2 ^ 5 → t < 2 ^ 5 → ((w : ℕ) → opcode w ≡ o → funct7 w ≡ f7 → funct3 w ≡ f3 → instruction w ≡ Some (make (rd w) (rs1 w) (rs2 w))) → instruction (r_type o f3 f7 d s t) ≡ Some (make d s t)
r_type_is o f3 f7 d s t make o_fits f3_fits f7_fits d_fits s_fits t_fits row =
    row (r_type o f3 f7 d s t) (r_type-opcode o f3 f7 d s t o_fits)
    (r_type-funct7 o f3 f7 d s t o_fits d_fits f3_fits s_fits t_fits f7_fits)
    (r_type-funct3 o f3 f7 d s t o_fits d_fits f3_fits)
    ∙ three_parts make _ _ _ _ _ _ (r_type-rd o f3 f7 d s t o_fits d_fits)
    (r_type-rs1 o f3 f7 d s t o_fits d_fits f3_fits s_fits)
    (r_type-rs2 o f3 f7 d s t o_fits d_fits f3_fits s_fits t_fits)

i_type_is : (o f3 d s immediate : ℕ) (make : ℕ → ℕ → ℤ → Insn) → o < 2 ^ 7 → f3 < 2 ^ 3 → d < 2 ^ 5 → s < 2 ^ 5 → immediate < 2 ^ 12 → ((w : ℕ) → opcode w ≡ o → funct3 w ≡ f3 → instruction w ≡ Some (make (rd w) (rs1 w) (i_immediate w))) → instruction (i_type o f3 d s immediate) ≡ Some (make d s (sign_extended 12 immediate))
i_type_is o f3 d s immediate make o_fits f3_fits d_fits s_fits immediate_fits row =
    row (i_type o f3 d s immediate) (i_type-opcode o f3 d s immediate o_fits)
    (i_type-funct3 o f3 d s immediate o_fits d_fits f3_fits)
    ∙ three_parts make _ _ _ _ _ _ (i_type-rd o f3 d s immediate o_fits d_fits)
    (i_type-rs1 o f3 d s immediate o_fits d_fits f3_fits s_fits)
    (ap (sign_extended 12) (i_type-immediate o f3 d s immediate o_fits d_fits f3_fits s_fits immediate_fits))

-- a shift, whose immediate holds the amount below the six bits of its row
shift_is : (o f3 f6 d s immediate amount : ℕ) (make : ℕ → ℕ → ℤ → Insn) → o < 2 ^ 7 → f3 < 2 ^ 3 → d < 2 ^ 5 → s < 2 ^ 5 → immediate < 2 ^ 12 → field immediate 11 6 ≡ f6 → field immediate 5 0 ≡ amount → ((w : ℕ) → opcode w ≡ o → funct3 w ≡ f3 → funct6 w ≡ f6 → instruction w ≡ Some (make (rd w) (rs1 w) (shift_amount w))) → instruction (i_type o f3 d s immediate) ≡ Some (make d s (pos amount))
shift_is o f3 f6 d s immediate amount make o_fits f3_fits d_fits s_fits immediate_fits above below row =
    row (i_type o f3 d s immediate) (i_type-opcode o f3 d s immediate o_fits)
    (i_type-funct3 o f3 d s immediate o_fits d_fits f3_fits)
    (i_type-funct6 o f3 d s immediate o_fits d_fits f3_fits s_fits immediate_fits ∙ above)
    ∙ three_parts make _ _ _ _ _ _ (i_type-rd o f3 d s immediate o_fits d_fits)
    (i_type-rs1 o f3 d s immediate o_fits d_fits f3_fits s_fits)
    (ap pos (i_type-amount o f3 d s immediate o_fits d_fits f3_fits s_fits ∙ below))

s_type_is : (o f3 s t immediate : ℕ) (make : ℕ → ℕ → ℤ → Insn) → o < 2 ^ 7 → f3 < 2 ^ 3 → s < 2 ^ 5 → t < 2 ^ 5 → immediate < 2 ^ 12 → ((w : ℕ) → opcode w ≡ o → funct3 w ≡ f3 → instruction w ≡ Some (make (rs1 w) (rs2 w) (s_immediate w))) → instruction (s_type o f3 s t immediate) ≡ Some (make s t (sign_extended 12 immediate))
s_type_is o f3 s t immediate make o_fits f3_fits s_fits t_fits immediate_fits row =
    row (s_type o f3 s t immediate) (s_type-opcode o f3 s t immediate o_fits)
    (s_type-funct3 o f3 s t immediate o_fits f3_fits)
    ∙ three_parts make _ _ _ _ _ _ (s_type-rs1 o f3 s t immediate o_fits f3_fits s_fits)
    (s_type-rs2 o f3 s t immediate o_fits f3_fits s_fits t_fits)
    (ap (sign_extended 12) (s_type-immediate o f3 s t immediate o_fits f3_fits s_fits t_fits immediate_fits))

b_type_is : (o f3 s t immediate : ℕ) (make : ℕ → ℕ → ℤ → Insn) → o < 2 ^ 7 → f3 < 2 ^ 3 → s < 2 ^ 5 → t < 2 ^ 5 → immediate < 2 ^ 13 → immediate % 2 ≡ 0 → ((w : ℕ) → opcode w ≡ o → funct3 w ≡ f3 → instruction w ≡ Some (make (rs1 w) (rs2 w) (b_offset w))) → instruction (b_type o f3 s t immediate) ≡ Some (make s t (sign_extended 13 immediate))
b_type_is o f3 s t immediate make o_fits f3_fits s_fits t_fits immediate_fits even row =
    row (b_type o f3 s t immediate) (b_type-opcode o f3 s t immediate o_fits)
    (b_type-funct3 o f3 s t immediate o_fits f3_fits)
    ∙ three_parts make _ _ _ _ _ _ (b_type-rs1 o f3 s t immediate o_fits f3_fits s_fits)
    (b_type-rs2 o f3 s t immediate o_fits f3_fits s_fits t_fits)
    (ap (sign_extended 13) (b_type-offset o f3 s t immediate o_fits f3_fits s_fits t_fits immediate_fits even))

-- ---- the instructions

lui_written : (d immediate : ℕ) → d < 2 ^ 5 → immediate < 2 ^ 32 → immediate % 2 ^ 12 ≡ 0 → instruction (u_type 0x37 d immediate) ≡ Some (Lui d (sign_extended 32 immediate))
lui_written d immediate d_fits immediate_fits low_bits =
    let at_opcode : 0x37 < 2 ^ 7 = omega arith in
    let register = u_type-rd 0x37 d immediate at_opcode d_fits in
    let value = ap (sign_extended 32) (u_type-immediate 0x37 d immediate at_opcode d_fits immediate_fits low_bits) in
    lui_is (u_type 0x37 d immediate) (u_type-opcode 0x37 d immediate at_opcode)
    ∙ two_parts Lui _ _ _ _ register value

jal_written : (d offset : ℕ) → d < 2 ^ 5 → offset < 2 ^ 21 → offset % 2 ≡ 0 → instruction (j_type 0x6f d offset) ≡ Some (Jal d (sign_extended 21 offset))
jal_written d offset d_fits offset_fits even =
    let at_opcode : 0x6f < 2 ^ 7 = omega arith in
    let register = j_type-rd 0x6f d offset at_opcode d_fits in
    let value = ap (sign_extended 21) (j_type-offset 0x6f d offset at_opcode d_fits offset_fits even) in
    jal_is (j_type 0x6f d offset) (j_type-opcode 0x6f d offset at_opcode)
    ∙ two_parts Jal _ _ _ _ register value

ebreak_written : instruction (i_type 0x73 0 0 0 1) ≡ Some Ebreak
unfolding i_type
ebreak_written = ebreak_is

pub each_word_is_its_instruction : EachWordIsItsInstruction
each_word_is_its_instruction = record {
  addi_is = λ d s i p q r. i_type_is 0x13 0 d s i (Imm Addi) (omega arith) (omega arith) p q r addi_is;
  andi_is = λ d s i p q r. i_type_is 0x13 7 d s i (Imm Andi) (omega arith) (omega arith) p q r andi_is;
  slli_is = λ d s n p q r. shift_is 0x13 1 0 d s n n (Imm Slli) (omega arith) (omega arith) p q (omega arith) (omega arith) (omega arith) slli_is;
  srli_is = λ d s n p q r. shift_is 0x13 5 0 d s n n (Imm Srli) (omega arith) (omega arith) p q (omega arith) (omega arith) (omega arith) srli_is;
  srai_is = λ d s n p q r. shift_is 0x13 5 16 d s (n + 0x400) n (Imm Srai) (omega arith) (omega arith) p q (omega arith) (omega arith) (omega arith) srai_is;
  addiw_is = λ d s i p q r. i_type_is 0x1b 0 d s i (ImmW Addiw) (omega arith) (omega arith) p q r addiw_is;
  lui_is = lui_written;
  lw_is = λ d s i p q r. i_type_is 0x03 2 d s i (Load Lw) (omega arith) (omega arith) p q r lw_is;
  ld_is = λ d s i p q r. i_type_is 0x03 3 d s i (Load Ld) (omega arith) (omega arith) p q r ld_is;
  sw_is = λ t s i q p r. s_type_is 0x23 2 s t i (Store Sw) (omega arith) (omega arith) p q r sw_is;
  sd_is = λ t s i q p r. s_type_is 0x23 3 s t i (Store Sd) (omega arith) (omega arith) p q r sd_is;
  add_is = λ d s t p q r. r_type_is 0x33 0 0x00 d s t (Reg Add) (omega arith) (omega arith) (omega arith) p q r add_is;
  sub_is = λ d s t p q r. r_type_is 0x33 0 0x20 d s t (Reg Sub) (omega arith) (omega arith) (omega arith) p q r sub_is;
  xor_is = λ d s t p q r. r_type_is 0x33 4 0x00 d s t (Reg Xor) (omega arith) (omega arith) (omega arith) p q r xor_is;
  or_is = λ d s t p q r. r_type_is 0x33 6 0x00 d s t (Reg Or) (omega arith) (omega arith) (omega arith) p q r or_is;
  and_is = λ d s t p q r. r_type_is 0x33 7 0x00 d s t (Reg And) (omega arith) (omega arith) (omega arith) p q r and_is;
  addw_is = λ d s t p q r. r_type_is 0x3b 0 0x00 d s t (RegW Addw) (omega arith) (omega arith) (omega arith) p q r addw_is;
  subw_is = λ d s t p q r. r_type_is 0x3b 0 0x20 d s t (RegW Subw) (omega arith) (omega arith) (omega arith) p q r subw_is;
  jal_is = jal_written;
  jalr_is = λ d s i p q r. i_type_is 0x67 0 d s i Jalr (omega arith) (omega arith) p q r jalr_is;
  beq_is = λ s t i p q r even. b_type_is 0x63 0 s t i (Branch Beq) (omega arith) (omega arith) p q r even beq_is;
  bne_is = λ s t i p q r even. b_type_is 0x63 1 s t i (Branch Bne) (omega arith) (omega arith) p q r even bne_is;
  ebreak_is = ebreak_written;
}
