use Rattle.std.proofs.Common.{refl}
use Rattle.std.proofs.lemmas.Result.{on_ok_weaker}
use Rattle.work_ops.proofs.Addresses.{left_new, want_less}
use Rattle.work_ops.proofs.LeftReasons.{left_reason}
use Rattle.work_ops.proofs.work.do_left.Goals as goal

pub want_op-requires-clause-reason : goal.want_op-requires-clause-reason
want_op-requires-clause-reason g c κs lts = left_reason g.J.Job.map g.J.Job.seeds c.args.desk.now.state.maps c.requires.kept c.args.name.key (rw c.in-Want.is at c.requires.left)

pub returns-in-Want-clause-less : goal.returns-in-Want-clause-less
returns-in-Want-clause-less g c =
    on_ok_weaker c.want_op.result
    (λ started. want_less g.J.Job.map g.J.Job.seeds c.ask.ensures c.requires.seeds _ _ c.requires.kept c.want_op.ensures.remembers c.args.name.key (c.want_op.ensures.kept _ refl) (left_new _ _ _ (rw c.in-Want.is at c.requires.left)) started)
    c.want_op.ensures.done
