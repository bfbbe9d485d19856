-- What holds between the two tables.
use Rattle.std.specs.Prelude.{◌≡◌, ℕ, ◌<◌, ◌%◌, ◌^◌, Some, IsSome, pos}
use Rattle.rv_decode.specs.Fields.{sign_extended}
use Rattle.rv_decode.specs.Table.{instruction}
use Rattle.rv_decode.specs.declared.instructions.Insn.TheVariants.{Lui, Jal, Jalr, Branch, Load}
use Rattle.rv_decode.specs.declared.instructions.Insn.TheVariants.{Store, Imm, ImmW, Reg, RegW}
use Rattle.rv_decode.specs.declared.instructions.Insn.TheVariants.{Ebreak}
use Rattle.rv_decode.specs.declared.instructions.BranchKind.TheVariants.{Beq, Bne}
use Rattle.rv_decode.specs.declared.instructions.LoadKind.TheVariants.{Lw, Ld}
use Rattle.rv_decode.specs.declared.instructions.StoreKind.TheVariants.{Sw, Sd}
use Rattle.rv_decode.specs.declared.instructions.ImmKind.TheVariants.{Addi, Andi, Slli, Srli, Srai}
use Rattle.rv_decode.specs.declared.instructions.ImmWKind.TheVariants.{Addiw}
use Rattle.rv_decode.specs.declared.instructions.RegKind.TheVariants.{Add, Sub, Xor, Or, And}
use Rattle.rv_decode.specs.declared.instructions.RegWKind.TheVariants.{Addw, Subw}
use Rattle.rvc_expand.specs.Instructions.{addi, andi, slli, srli, srai, addiw, lui, lw, ld, sw, sd}
use Rattle.rvc_expand.specs.Instructions.{add, sub, xor, or, and, addw, subw, jal, jalr, beq, bne}
use Rattle.rvc_expand.specs.Instructions.{ebreak}
use Rattle.rvc_expand.specs.Table.{expansion}

-- A word that a halfword expands to is an instruction: no compressed form leads out of the
-- instruction table.
abbrev pub EveryExpansionDecodes : Type 0
EveryExpansionDecodes = (half word : ℕ) → expansion half ≡ Some word → IsSome (instruction word)

-- What the compressed table writes as `lw rd rs1 offset`, and so on, is the instruction LW with
-- these registers and this offset. Its immediate is the value in two's complement of the 12, 13, 21
-- or 32 bits that were written. A shift's immediate is its amount.
pub record EachWordIsItsInstruction : Type 0 where
  pub addi_is : (rd rs1 immediate : ℕ) → rd < 2 ^ 5 → rs1 < 2 ^ 5 → immediate < 2 ^ 12
      → instruction (addi rd rs1 immediate) ≡ Some (Imm Addi rd rs1 (sign_extended 12 immediate))
  pub andi_is : (rd rs1 immediate : ℕ) → rd < 2 ^ 5 → rs1 < 2 ^ 5 → immediate < 2 ^ 12
      → instruction (andi rd rs1 immediate) ≡ Some (Imm Andi rd rs1 (sign_extended 12 immediate))
  pub slli_is : (rd rs1 amount : ℕ) → rd < 2 ^ 5 → rs1 < 2 ^ 5 → amount < 2 ^ 6
      → instruction (slli rd rs1 amount) ≡ Some (Imm Slli rd rs1 (pos amount))
  pub srli_is : (rd rs1 amount : ℕ) → rd < 2 ^ 5 → rs1 < 2 ^ 5 → amount < 2 ^ 6
      → instruction (srli rd rs1 amount) ≡ Some (Imm Srli rd rs1 (pos amount))
  pub srai_is : (rd rs1 amount : ℕ) → rd < 2 ^ 5 → rs1 < 2 ^ 5 → amount < 2 ^ 6
      → instruction (srai rd rs1 amount) ≡ Some (Imm Srai rd rs1 (pos amount))
  pub addiw_is : (rd rs1 immediate : ℕ) → rd < 2 ^ 5 → rs1 < 2 ^ 5 → immediate < 2 ^ 12
      → instruction (addiw rd rs1 immediate) ≡ Some (ImmW Addiw rd rs1 (sign_extended 12 immediate))
  pub lui_is : (rd immediate : ℕ) → rd < 2 ^ 5 → immediate < 2 ^ 32 → immediate % 2 ^ 12 ≡ 0
      → instruction (lui rd immediate) ≡ Some (Lui rd (sign_extended 32 immediate))
  pub lw_is : (rd rs1 offset : ℕ) → rd < 2 ^ 5 → rs1 < 2 ^ 5 → offset < 2 ^ 12
      → instruction (lw rd rs1 offset) ≡ Some (Load Lw rd rs1 (sign_extended 12 offset))
  pub ld_is : (rd rs1 offset : ℕ) → rd < 2 ^ 5 → rs1 < 2 ^ 5 → offset < 2 ^ 12
      → instruction (ld rd rs1 offset) ≡ Some (Load Ld rd rs1 (sign_extended 12 offset))
  pub sw_is : (rs2 rs1 offset : ℕ) → rs2 < 2 ^ 5 → rs1 < 2 ^ 5 → offset < 2 ^ 12
      → instruction (sw rs2 rs1 offset) ≡ Some (Store Sw rs1 rs2 (sign_extended 12 offset))
  pub sd_is : (rs2 rs1 offset : ℕ) → rs2 < 2 ^ 5 → rs1 < 2 ^ 5 → offset < 2 ^ 12
      → instruction (sd rs2 rs1 offset) ≡ Some (Store Sd rs1 rs2 (sign_extended 12 offset))
  pub add_is : (rd rs1 rs2 : ℕ) → rd < 2 ^ 5 → rs1 < 2 ^ 5 → rs2 < 2 ^ 5
      → instruction (add rd rs1 rs2) ≡ Some (Reg Add rd rs1 rs2)
  pub sub_is : (rd rs1 rs2 : ℕ) → rd < 2 ^ 5 → rs1 < 2 ^ 5 → rs2 < 2 ^ 5
      → instruction (sub rd rs1 rs2) ≡ Some (Reg Sub rd rs1 rs2)
  pub xor_is : (rd rs1 rs2 : ℕ) → rd < 2 ^ 5 → rs1 < 2 ^ 5 → rs2 < 2 ^ 5
      → instruction (xor rd rs1 rs2) ≡ Some (Reg Xor rd rs1 rs2)
  pub or_is : (rd rs1 rs2 : ℕ) → rd < 2 ^ 5 → rs1 < 2 ^ 5 → rs2 < 2 ^ 5
      → instruction (or rd rs1 rs2) ≡ Some (Reg Or rd rs1 rs2)
  pub and_is : (rd rs1 rs2 : ℕ) → rd < 2 ^ 5 → rs1 < 2 ^ 5 → rs2 < 2 ^ 5
      → instruction (and rd rs1 rs2) ≡ Some (Reg And rd rs1 rs2)
  pub addw_is : (rd rs1 rs2 : ℕ) → rd < 2 ^ 5 → rs1 < 2 ^ 5 → rs2 < 2 ^ 5
      → instruction (addw rd rs1 rs2) ≡ Some (RegW Addw rd rs1 rs2)
  pub subw_is : (rd rs1 rs2 : ℕ) → rd < 2 ^ 5 → rs1 < 2 ^ 5 → rs2 < 2 ^ 5
      → instruction (subw rd rs1 rs2) ≡ Some (RegW Subw rd rs1 rs2)
  pub jal_is : (rd offset : ℕ) → rd < 2 ^ 5 → offset < 2 ^ 21 → offset % 2 ≡ 0
      → instruction (jal rd offset) ≡ Some (Jal rd (sign_extended 21 offset))
  pub jalr_is : (rd rs1 offset : ℕ) → rd < 2 ^ 5 → rs1 < 2 ^ 5 → offset < 2 ^ 12
      → instruction (jalr rd rs1 offset) ≡ Some (Jalr rd rs1 (sign_extended 12 offset))
  pub beq_is : (rs1 rs2 offset : ℕ) → rs1 < 2 ^ 5 → rs2 < 2 ^ 5 → offset < 2 ^ 13 → offset % 2 ≡ 0
      → instruction (beq rs1 rs2 offset) ≡ Some (Branch Beq rs1 rs2 (sign_extended 13 offset))
  pub bne_is : (rs1 rs2 offset : ℕ) → rs1 < 2 ^ 5 → rs2 < 2 ^ 5 → offset < 2 ^ 13 → offset % 2 ≡ 0
      → instruction (bne rs1 rs2 offset) ≡ Some (Branch Bne rs1 rs2 (sign_extended 13 offset))
  pub ebreak_is : instruction ebreak ≡ Some Ebreak
