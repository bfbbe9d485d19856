use Rattle.work_ops.proofs.GoingOn.{rests}
use Rattle.work_ops.proofs.edges.follow_some.Goals as goal

pub returns-in-None-clause-went : goal.returns-in-None-clause-went
returns-in-None-clause-went g c =
    rests _ _ _ _ _ _ c.requires.kept
