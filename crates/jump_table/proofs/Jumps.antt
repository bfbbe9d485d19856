-- The register of a jump through one is within its field.
use Rattle.std.proofs.Common.{ℕ, ◌==◌, ◌&&◌, ◌||◌, List, Option, Some, None}
use Rattle.std.specs.Prelude.{IfSome, ℤ}
use Rattle.std.proofs.lemmas.Bool.{cond_both}
use Rattle.rv_decode.specs.declared.instructions.Insn.{Insn}
use Rattle.rv_decode.specs.declared.instructions.Insn.TheVariants as insns
use Rattle.rv_decode.specs.declared.instructions.AwayKind.{AwayKind}
use Rattle.rv_decode.specs.declared.instructions.AwayKind.TheVariants as aways
use Rattle.rv_flow.specs.declared.raw.RawFlow.{RawFlow}
use Rattle.rv_flow.specs.declared.raw.RawFlow.TheVariants as raw
use Rattle.rv_flow.specs.Placed.{placed_at}
use Rattle.rv_flow.specs.Raw.{address_plus, is_unimp, jalr_flow, pair_target, insn_flow, away_flow, raw_flow_by, raw_flow_at}
use Rattle.jump_table.specs.Inner.Operands.{IsRegister, HasOperands}
use Rattle.jump_table.proofs.Placed.{placed-operands}

-- What a flow says of a register that it jumps through.
abbrev pub JumpFits : RawFlow → Type 0
JumpFits (raw.RegisterJump r offset) = IsRegister r
JumpFits _ = Unit {0}

jalr-fits : (rd rs1 : ℕ) (imm : ℤ) (pair : Option ℕ) → IsRegister rs1 → JumpFits (jalr_flow rd rs1 imm pair)
jalr-fits rd rs1 imm (Some target) h = cond_both (rd == 0) (raw.Jump target) (raw.Call target) JumpFits (λ _. tt) (λ _. tt)
jalr-fits rd rs1 imm None h =
    cond_both (rd == 0) _ _ JumpFits
    (λ _. cond_both ((rs1 == 1) || (rs1 == 5)) raw.Return (raw.RegisterJump rs1 imm) JumpFits (λ _. tt) (λ _. h))
    (λ _. cond_both ((rd == 6) && (rs1 == 28)) (raw.RegisterJump rs1 imm) raw.IndirectCall JumpFits (λ _. h) (λ _. tt))

away-fits : (kind : AwayKind) → JumpFits (away_flow kind)
away-fits aways.Return = tt
away-fits aways.Unknown = tt
away-fits aways.Call = tt

module _ (bytes : List ℕ) (a : ℕ) where
  insn-fits : (insn : Insn) → HasOperands insn → JumpFits (insn_flow bytes a insn)
  insn-fits (insns.Jal rd offset) h =
      cond_both (rd == 0) (raw.Jump (address_plus a offset)) (raw.Call (address_plus a offset)) JumpFits (λ _. tt) (λ _. tt)
  insn-fits (insns.Jalr rd rs1 imm) h = jalr-fits rd rs1 imm (pair_target bytes a rs1 imm) h.1
  insn-fits (insns.Csr kind rd source csr) h = cond_both (is_unimp kind rd source csr) raw.Stop raw.Straight JumpFits (λ _. tt) (λ _. tt)
  insn-fits (insns.Away kind reads writes) h = away-fits kind
  insn-fits _ h = tt

  by-insn : (insn : Option Insn) → IfSome insn HasOperands → JumpFits (raw_flow_by bytes a insn)
  by-insn None h = tt
  by-insn (Some insn) h = insn-fits insn h

  pub jump-fits : JumpFits (raw_flow_at bytes a)
  jump-fits = by-insn (placed_at bytes a).insn (placed-operands bytes a)
