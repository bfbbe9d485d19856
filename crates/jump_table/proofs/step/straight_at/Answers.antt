use Rattle.std.proofs.Common.{sym, subst}
use Rattle.rv_flow.specs.declared.placed.Placed.{Placed}
use Rattle.jump_table.specs.Inner.Straight.{IsLength}
use Rattle.jump_table.proofs.Placed.{placed-length}
use Rattle.jump_table.proofs.step.straight_at.Goals as goal

pub returns-in-Straight-clause-length : goal.returns-in-Straight-clause-length
returns-in-Straight-clause-length c =
    let P : Placed → Type 0 = λ placed. IsLength placed.length in
    subst P (sym c.insn_at-placed.ensures.placed) (placed-length c.args.image.now c.args.a)
