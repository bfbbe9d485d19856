-- What a word is by its fields, for the instructions that the compressed forms stand for.
use Rattle.std.proofs.Common.{◌≡◌, ℕ, Some, refl, ◌∙◌}
use Rattle.rv_decode.specs.Fields.{opcode, rd, funct3, rs1, funct7, funct6, i_immediate}
use Rattle.rv_decode.specs.Table.{instruction, branch, load, store, imm, shift, imm_w, reg, reg_w}
use Rattle.rv_decode.specs.declared.instructions.Insn.TheVariants.{Jalr}
use Rattle.rv_decode.specs.declared.instructions.BranchKind.TheVariants.{Beq, Bne}
use Rattle.rv_decode.specs.declared.instructions.LoadKind.TheVariants.{Lw, Ld}
use Rattle.rv_decode.specs.declared.instructions.StoreKind.TheVariants.{Sw, Sd}
use Rattle.rv_decode.specs.declared.instructions.ImmKind.TheVariants.{Addi, Andi, Slli, Srli, Srai}
use Rattle.rv_decode.specs.declared.instructions.ImmWKind.TheVariants.{Addiw}
use Rattle.rv_decode.specs.declared.instructions.RegKind.TheVariants.{Add, Xor, Or, And, Sub}
use Rattle.rv_decode.specs.declared.instructions.RegWKind.TheVariants.{Addw, Subw}
use Rattle.rv_decode.proofs.ByOpcode.{jalr_cases, branch_cases, load_cases, store_cases, imm_cases, imm_w_cases, base_cases, negated_cases, reg_w_cases}

pub jalr_is : (w : ℕ) → opcode w ≡ 0x67 → funct3 w ≡ 0 → instruction w ≡ Some (Jalr (rd w) (rs1 w) (i_immediate w))
jalr_is w h k = jalr_cases w h ∙ rw k refl

pub beq_is : (w : ℕ) → opcode w ≡ 0x63 → funct3 w ≡ 0 → instruction w ≡ Some (branch Beq w)
beq_is w h k = branch_cases w h ∙ rw k refl

pub bne_is : (w : ℕ) → opcode w ≡ 0x63 → funct3 w ≡ 1 → instruction w ≡ Some (branch Bne w)
bne_is w h k = branch_cases w h ∙ rw k refl

pub lw_is : (w : ℕ) → opcode w ≡ 0x03 → funct3 w ≡ 2 → instruction w ≡ Some (load Lw w)
lw_is w h k = load_cases w h ∙ rw k refl

pub ld_is : (w : ℕ) → opcode w ≡ 0x03 → funct3 w ≡ 3 → instruction w ≡ Some (load Ld w)
ld_is w h k = load_cases w h ∙ rw k refl

pub sw_is : (w : ℕ) → opcode w ≡ 0x23 → funct3 w ≡ 2 → instruction w ≡ Some (store Sw w)
sw_is w h k = store_cases w h ∙ rw k refl

pub sd_is : (w : ℕ) → opcode w ≡ 0x23 → funct3 w ≡ 3 → instruction w ≡ Some (store Sd w)
sd_is w h k = store_cases w h ∙ rw k refl

pub addi_is : (w : ℕ) → opcode w ≡ 0x13 → funct3 w ≡ 0 → instruction w ≡ Some (imm Addi w)
addi_is w h k = imm_cases w h ∙ rw k refl

pub andi_is : (w : ℕ) → opcode w ≡ 0x13 → funct3 w ≡ 7 → instruction w ≡ Some (imm Andi w)
andi_is w h k = imm_cases w h ∙ rw k refl

pub slli_is : (w : ℕ) → opcode w ≡ 0x13 → funct3 w ≡ 1 → funct6 w ≡ 0b000000 → instruction w ≡ Some (shift Slli w)
slli_is w h k j = imm_cases w h ∙ rw (k, j) refl

pub srli_is : (w : ℕ) → opcode w ≡ 0x13 → funct3 w ≡ 5 → funct6 w ≡ 0b000000 → instruction w ≡ Some (shift Srli w)
srli_is w h k j = imm_cases w h ∙ rw (k, j) refl

pub srai_is : (w : ℕ) → opcode w ≡ 0x13 → funct3 w ≡ 5 → funct6 w ≡ 0b010000 → instruction w ≡ Some (shift Srai w)
srai_is w h k j = imm_cases w h ∙ rw (k, j) refl

pub addiw_is : (w : ℕ) → opcode w ≡ 0x1B → funct3 w ≡ 0 → instruction w ≡ Some (imm_w Addiw w)
addiw_is w h k = imm_w_cases w h ∙ rw k refl

pub add_is : (w : ℕ) → opcode w ≡ 0x33 → funct7 w ≡ 0x00 → funct3 w ≡ 0 → instruction w ≡ Some (reg Add w)
add_is w h k j = base_cases w h k ∙ rw j refl

pub xor_is : (w : ℕ) → opcode w ≡ 0x33 → funct7 w ≡ 0x00 → funct3 w ≡ 4 → instruction w ≡ Some (reg Xor w)
xor_is w h k j = base_cases w h k ∙ rw j refl

pub or_is : (w : ℕ) → opcode w ≡ 0x33 → funct7 w ≡ 0x00 → funct3 w ≡ 6 → instruction w ≡ Some (reg Or w)
or_is w h k j = base_cases w h k ∙ rw j refl

pub and_is : (w : ℕ) → opcode w ≡ 0x33 → funct7 w ≡ 0x00 → funct3 w ≡ 7 → instruction w ≡ Some (reg And w)
and_is w h k j = base_cases w h k ∙ rw j refl

pub sub_is : (w : ℕ) → opcode w ≡ 0x33 → funct7 w ≡ 0x20 → funct3 w ≡ 0 → instruction w ≡ Some (reg Sub w)
sub_is w h k j = negated_cases w h k ∙ rw j refl

pub addw_is : (w : ℕ) → opcode w ≡ 0x3B → funct7 w ≡ 0x00 → funct3 w ≡ 0 → instruction w ≡ Some (reg_w Addw w)
addw_is w h k j = reg_w_cases w h ∙ rw (k, j) refl

pub subw_is : (w : ℕ) → opcode w ≡ 0x3B → funct7 w ≡ 0x20 → funct3 w ≡ 0 → instruction w ≡ Some (reg_w Subw w)
subw_is w h k j = reg_w_cases w h ∙ rw (k, j) refl
