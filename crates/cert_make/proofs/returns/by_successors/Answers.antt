use Rattle.std.proofs.Common.{◌+◌, ◌^◌, ◌-◌, refl, arith}
use Rattle.cert_make.proofs.Settling.{no_successor, rank_below, way_alone}
use Rattle.cert_make.proofs.returns.by_successors.Goals as goal

pub returns-in_err-way : goal.returns-in_err-way
returns-in_err-way g c =
    rw c.from_residual.ensures (no_successor (g.C.Chains.map c.args.code.now) c.args.returns.now.lines.now c.args.k c.args.successors.now c.requires.successors c.requires.stays c.requires.no_call c.in_err-way.ensures)

pub overflow_add-result : goal.overflow_add-result
overflow_add-result g c =
    omega (arith, rank_below (g.C.Chains.map c.args.code.now) c.args.returns.now.lines.now c.in_ok-way.way.rank c.in_ok-way.way.to (2 ^ 64 - 1) c.requires.ranks c.in_ok-way.ensures.has)

pub returns : goal.returns
returns g c = (
  refl,
  way_alone (g.C.Chains.map c.args.code.now) c.args.returns.now.lines.now c.args.k c.in_ok-way.way.rank c.in_ok-way.way.to c.args.successors.now
      c.requires.successors c.requires.stays c.requires.no_call c.in_ok-way.ensures,
)
