use Rattle.work_ops.proofs.GoingOn.{rests}
use Rattle.work_ops.proofs.Reasons.{called_not}
use Rattle.work_ops.proofs.edges.call_all.Goals as goal

pub returns-in_default : goal.returns-in_default
returns-in_default g c =
    record {
      went = rests _ _ _ _ _ _ c.requires.kept;
      busy = tt;
      called = called_not _ _ c.args.k c.args.flow c.requires.flow c.in_default.not-Call;
    }
