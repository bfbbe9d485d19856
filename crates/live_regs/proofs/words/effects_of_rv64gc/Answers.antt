use Rattle.std.proofs.Common.{◌≢◌, Option, refl, sym, subst, Some, ◌∙◌, arith}
use Rattle.rv_decode.specs.Fields.{opcode}
use Rattle.rv_decode.specs.declared.instructions.Insn.{Insn}
use Rattle.rv_decode.specs.declared.instructions.Insn.TheVariants.{Auipc}
use Rattle.live_regs.specs.Effects.{labelled}
use Rattle.live_regs.specs.Inner.{AreEffectsIf, AreInsnEffects}
use Rattle.live_regs.proofs.Operands.{effects_named, plain_told, auipc_effects, effects_plain, upper_told, jalr_told, load_told, imm_told, imm_w_told, reg_told, reg_w_told, store_told, branch_told}
use Rattle.live_regs.proofs.words.effects_of_rv64gc.Goals as goal
use Rattle.live_regs.proofs.words.effects_of_rv64gc.Goals.{in_default-via-in-103+else-funct3-eq0, in_default-via-in-3+else-funct3-ne7, in_default-via-in-19+else-is_imm, in_default-via-in-27+else-funct3-eq0-2, in_default-via-in-51+else-is_reg, in_default-via-in-59+then-funct3-eq0-3+else-is_reg-2, in_default-via-in-59+else-funct3-eq0-3, in_default-via-in-35+else-funct3-lt4, in_default-via-in-99+else-is_branch, in_default-via-in_default-1}

pub returns-in-55 : goal.returns-in-55
returns-in-55 c =
    effects_named _ _ _ _ _ _ _ _ (plain_told c.args.has_pads c.args.extensions.now c.args.word _ (grind (arith, c.in-55.is, c.opcode.ensures)) (upper_told c.args.extensions.now c.args.word (grind (arith, c.in-55.is, c.opcode.ensures))))
    c.rd.ensures refl refl c.effects_by.ensures.reads c.effects_by.ensures.writes

pub returns-in-103 : goal.returns-in-103
returns-in-103 c =
    effects_named _ _ _ _ _ _ _ _ (plain_told c.args.has_pads c.args.extensions.now c.args.word _ (omega (arith, c.opcode.ensures, c.in-103.is)) (jalr_told c.args.extensions.now c.args.word (sym c.opcode.ensures ∙ c.in-103.is) (sym c.funct3.ensures ∙ c.if-funct3-eq0.true)))
    c.rd-in-103.ensures c.rs1.ensures refl c.effects_by-in-103.ensures.reads c.effects_by-in-103.ensures.writes

pub returns-in-3 : goal.returns-in-3
returns-in-3 c =
    effects_named _ _ _ _ _ _ _ _ (plain_told c.args.has_pads c.args.extensions.now c.args.word _ (omega (arith, c.opcode.ensures, c.in-3.is)) (load_told c.args.extensions.now c.args.word (sym c.opcode.ensures ∙ c.in-3.is) (omega (arith, c.funct3-in-3-1.ensures, c.if-funct3-ne7.true))))
    c.rd-in-3.ensures c.rs1-in-3.ensures refl c.effects_by-in-3.ensures.reads c.effects_by-in-3.ensures.writes

pub returns-in-19 : goal.returns-in-19
returns-in-19 c =
    effects_named _ _ _ _ _ _ _ _ (plain_told c.args.has_pads c.args.extensions.now c.args.word _ (omega (arith, c.opcode.ensures, c.in-19.is)) (imm_told c.args.extensions.now c.args.word (sym c.opcode.ensures ∙ c.in-19.is) (sym c.is_imm.ensures ∙ c.if-is_imm.true)))
    c.rd-in-19.ensures c.rs1-in-19.ensures refl c.effects_by-in-19.ensures.reads c.effects_by-in-19.ensures.writes

pub returns-in-27 : goal.returns-in-27
returns-in-27 c =
    effects_named _ _ _ _ _ _ _ _ (plain_told c.args.has_pads c.args.extensions.now c.args.word _ (omega (arith, c.opcode.ensures, c.in-27.is)) (imm_w_told c.args.extensions.now c.args.word (sym c.opcode.ensures ∙ c.in-27.is) (sym c.funct3-in-27-1.ensures ∙ c.if-funct3-eq0-2.true)))
    c.rd-in-27.ensures c.rs1-in-27.ensures refl c.effects_by-in-27.ensures.reads c.effects_by-in-27.ensures.writes

pub returns-in-51 : goal.returns-in-51
returns-in-51 c =
    effects_named _ _ _ _ _ _ _ _ (plain_told c.args.has_pads c.args.extensions.now c.args.word _ (omega (arith, c.opcode.ensures, c.in-51.is)) (reg_told c.args.extensions.now c.args.word (sym c.opcode.ensures ∙ c.in-51.is) (sym c.is_reg.ensures ∙ c.if-is_reg.true)))
    c.rd-in-51.ensures c.rs1-in-51.ensures c.rs2.ensures c.effects_by-in-51.ensures.reads c.effects_by-in-51.ensures.writes

pub returns-in-59 : goal.returns-in-59
returns-in-59 c =
    effects_named _ _ _ _ _ _ _ _ (plain_told c.args.has_pads c.args.extensions.now c.args.word _ (omega (arith, c.opcode.ensures, c.in-59.is)) (reg_w_told c.args.extensions.now c.args.word (sym c.opcode.ensures ∙ c.in-59.is) (sym c.funct3-in-59-1.ensures ∙ c.if-funct3-eq0-3.true) (sym c.is_reg-then-funct3-eq0-3.ensures ∙ c.if-is_reg-2.true)))
    c.rd-in-59.ensures c.rs1-in-59.ensures c.rs2-in-59.ensures c.effects_by-in-59.ensures.reads c.effects_by-in-59.ensures.writes

pub returns-in-35 : goal.returns-in-35
returns-in-35 c =
    effects_named _ _ _ _ _ _ _ _ (plain_told c.args.has_pads c.args.extensions.now c.args.word _ (omega (arith, c.opcode.ensures, c.in-35.is)) (store_told c.args.extensions.now c.args.word (sym c.opcode.ensures ∙ c.in-35.is) (omega (arith, c.funct3-in-35-1.ensures, c.if-funct3-lt4.true))))
    refl c.rs1-in-35.ensures c.rs2-in-35.ensures c.effects_by-in-35.ensures.reads c.effects_by-in-35.ensures.writes

pub returns-in-99 : goal.returns-in-99
returns-in-99 c =
    effects_named _ _ _ _ _ _ _ _ (plain_told c.args.has_pads c.args.extensions.now c.args.word _ (omega (arith, c.opcode.ensures, c.in-99.is)) (branch_told c.args.extensions.now c.args.word (sym c.opcode.ensures ∙ c.in-99.is) (sym c.is_branch.ensures ∙ c.if-is_branch.true)))
    refl c.rs1-in-99.ensures c.rs2-in-99.ensures c.effects_by-in-99.ensures.reads c.effects_by-in-99.ensures.writes

pub returns-in-23 : goal.returns-in-23
returns-in-23 c =
    auipc_effects c.args.has_pads c.args.extensions.now c.args.word _ (sym c.opcode.ensures ∙ c.in-23.is)
    (λ imm. subst (λ d. AreInsnEffects (labelled c.args.has_pads (Some (Auipc d imm))) c.effects_of_auipc.result) c.rd-in-23.ensures (c.effects_of_auipc.ensures imm))

no_auipc : (c : goal.After-effects_if) → opcode c.args.word ≢ 0x17
no_auipc c = elim c.in_default.branch [
  | in_default-via-in-103+else-funct3-eq0 w ↦ grind (arith, c.opcode.ensures, w.in-103.is)
  | in_default-via-in-3+else-funct3-ne7 w ↦ grind (arith, c.opcode.ensures, w.in-3.is)
  | in_default-via-in-19+else-is_imm w ↦ grind (arith, c.opcode.ensures, w.in-19.is)
  | in_default-via-in-27+else-funct3-eq0-2 w ↦ grind (arith, c.opcode.ensures, w.in-27.is)
  | in_default-via-in-51+else-is_reg w ↦ grind (arith, c.opcode.ensures, w.in-51.is)
  | in_default-via-in-59+then-funct3-eq0-3+else-is_reg-2 w ↦ grind (arith, c.opcode.ensures, w.in-59.is)
  | in_default-via-in-59+else-funct3-eq0-3 w ↦ grind (arith, c.opcode.ensures, w.in-59.is)
  | in_default-via-in-35+else-funct3-lt4 w ↦ grind (arith, c.opcode.ensures, w.in-35.is)
  | in_default-via-in-99+else-is_branch w ↦ grind (arith, c.opcode.ensures, w.in-99.is)
  | in_default-via-in_default-1 w ↦ grind (arith, c.opcode.ensures, w.in_default-1.rest)
]

pub returns-in_default : goal.returns-in_default
returns-in_default c =
    effects_plain c.args.has_pads c.args.extensions.now c.args.word _ (no_auipc c)
    (subst (λ (o : Option Insn). AreEffectsIf o c.effects_if.result) c.rv64gc_insn.ensures c.effects_if.ensures)
