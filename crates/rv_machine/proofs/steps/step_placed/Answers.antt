use Rattle.std.proofs.Common.{◌≡◌, Option, Some, sym, ap, ◌∙◌, subst}
use Rattle.std.specs.Prelude.{IfSome}
use Rattle.rv_decode.specs.declared.instructions.Insn.{Insn}
use Rattle.rv_flow.specs.declared.placed.Placed.{Placed}
use Rattle.rv_machine.specs.Inner.Operands.{WritesRegister}
use Rattle.rv_machine.proofs.Operands.{placed-writes}
use Rattle.rv_machine.proofs.steps.step_placed.Goals as goal

there : (o : Option Insn) (insn : Insn) → o ≡ Some insn → IfSome o WritesRegister → WritesRegister insn
there o insn is h = subst (λ (p : Option Insn). IfSome p WritesRegister) is h

pub insn_step-requires : goal.insn_step-requires
insn_step-requires g c =
    let same = ap (λ (p : Placed). p.insn) c.requires.placed in
    there _ c.in-Some.insn (sym same ∙ c.in-Some.is) (placed-writes c.args.image.now c.args.cpu.now.pc)
