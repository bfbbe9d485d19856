use Rattle.std.proofs.Common.{sym, ap, ◌∙◌}
use Rattle.std.specs.Prelude.{Some}
use mathlib.Core.Logic.{inl}
use Rattle.std.proofs.lemmas.Result.{on_ok_weaker}
use Rattle.work_ops.proofs.Addresses.{not_done}
use Rattle.work_ops.proofs.Measuring.{edges_lower}
use Rattle.work_ops.proofs.work.follow_edges.Goals as goal

pub returns-in-Some-false-clause-less : goal.returns-in-Some-false-clause-less
returns-in-Some-false-clause-less g c =
    let new = not_done c.args.desk.now.state.maps.terminators c.args.k (sym c.done.ensures ∙ c.in-Some-false.is ∙ ap Some c.in-Some-false.field-0-test) in
    on_ok_weaker c.edges_op.result
    (λ done. inl (edges_lower g.J.Job.map _ _ c.edges_op.ensures.remembers c.args.k c.ranges.k.fits new done))
    c.edges_op.ensures.done

pub returns-in-Some-false-clause-left : goal.returns-in-Some-false-clause-left
returns-in-Some-false-clause-left g c =
    let new = not_done c.args.desk.now.state.maps.terminators c.args.k (sym c.done.ensures ∙ c.in-Some-false.is ∙ ap Some c.in-Some-false.field-0-test) in
    on_ok_weaker c.edges_op.result
    (λ done left. edges_lower g.J.Job.map _ _ c.edges_op.ensures.remembers c.args.k c.ranges.k.fits new done)
    c.edges_op.ensures.done
