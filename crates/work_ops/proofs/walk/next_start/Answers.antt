use Rattle.std.proofs.Common.{refl}
use Rattle.work_ops.proofs.GoingOn.{rests}
use Rattle.work_ops.proofs.walk.next_start.Goals as goal

pub returns-then-from-limit-clause-went : goal.returns-then-from-limit-clause-went
returns-then-from-limit-clause-went g c = rests _ _ _ _ _ _ c.requires.kept

pub loop-line-init : goal.loop-line-init
loop-line-init g c = (rests _ _ _ _ _ _ c.requires.kept, refl)
