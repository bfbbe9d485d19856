use Rattle.work_ops.proofs.GoingOn.{finds, rests}
use Rattle.work_ops.proofs.parts.pass_on.Goals as goal

pub returns-then-new-clause-went : goal.returns-then-new-clause-went
returns-then-new-clause-went g c = finds _ _ _ _ _ _ _ c.found.ensures.same c.requires c.found.ensures.remembers c.found.ensures.counted

pub returns-else-new-clause-went : goal.returns-else-new-clause-went
returns-else-new-clause-went g c = rests _ _ _ _ _ _ c.requires
