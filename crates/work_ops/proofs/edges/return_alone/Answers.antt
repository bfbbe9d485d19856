use Rattle.work_ops.proofs.GoingOn.{rests}
use Rattle.work_ops.proofs.edges.return_alone.Goals as goal

pub returns-else-leaves-clause-went : goal.returns-else-leaves-clause-went
returns-else-leaves-clause-went g c =
    rests _ _ _ _ _ _ c.requires.kept
