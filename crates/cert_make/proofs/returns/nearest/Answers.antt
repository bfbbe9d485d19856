use Rattle.std.proofs.Common.{Option, sym, subst, take, ◌+◌}
use Rattle.cert_make.specs.declared.returns.Way.{Way}
use Rattle.cert_make.proofs.Nearest.{Nearest, near_still, near_new, near_at_end}
use Rattle.cert_make.proofs.returns.nearest.Goals as goal
use Rattle.cert_make.proofs.returns.nearest.Goals.{in-Some, in_default}

pub loop-to-preserved : goal.loop-to-preserved
loop-to-preserved g c =
    let map = g.C.Chains.map c.args.code.now in
    elim c.match-rank_at.branch [
      | in-Some w ↦ subst (λ (o : Option Way). Nearest map c.args.returns.now.lines.now (take (c.loop-to.to-index + 1) c.args.successors.now) o) (sym w.nearest-is)
          (near_new map c.args.returns.now.lines.now c.args.successors.now c.loop-to.to-index w.in-Some.rank c.loop-to.nearest w.nearer.result c.loop-to-test.true c.loop-to.invariant w.in-Some.ensures w.nearer.ensures.one_of_both w.nearer.ensures.other w.nearer.ensures.one)
      | in_default w ↦ subst (λ (o : Option Way). Nearest map c.args.returns.now.lines.now (take (c.loop-to.to-index + 1) c.args.successors.now) o) (sym w.nearest-is)
          (near_still map c.args.returns.now.lines.now c.args.successors.now c.loop-to.to-index c.loop-to.nearest c.loop-to-test.true c.loop-to.invariant w.in_default.ensures)
    ]

pub returns : goal.returns
returns g c = near_at_end (g.C.Chains.map c.args.code.now) c.args.returns.now.lines.now c.args.successors.now c.loop-to.to-index c.loop-to.nearest c.loop-to-test.false c.loop-to.invariant
