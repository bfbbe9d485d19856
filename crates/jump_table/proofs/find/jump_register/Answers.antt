use Rattle.std.proofs.Common.{sym, ◌∙◌, subst}
use Rattle.jump_table.proofs.Jumps.{JumpFits, jump-fits}
use Rattle.jump_table.proofs.find.jump_register.Goals as goal

pub returns-in-RegisterJump-default-eq0-clause-register : goal.returns-in-RegisterJump-default-eq0-clause-register
returns-in-RegisterJump-default-eq0-clause-register c =
    subst JumpFits (sym c.raw_flow.ensures.flow ∙ c.in-RegisterJump-default-eq0.is) (jump-fits c.args.image.now c.args.j)
