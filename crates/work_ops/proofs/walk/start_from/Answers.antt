use Rattle.work_ops.proofs.GoingOn.{reads, goes_on, kept_along}
use Rattle.work_ops.proofs.walk.start_from.Goals as goal

pub returns-then-a-ne0-clause-went : goal.returns-then-a-ne0-clause-went
returns-then-a-ne0-clause-went g c =
    reads _ _ _ _ _ c.start_behind.result _ _ _ _ c.start_behind.ensures.tried c.requires.kept

pub returns-in_err-has_start-clause-went : goal.returns-in_err-has_start-clause-went
returns-in_err-has_start-clause-went g c =
    reads _ _ _ _ _ c.has_start.result _ _ _ _ c.has_start.ensures.tried c.requires.kept

pub returns-then-branch-clause-went : goal.returns-then-branch-clause-went
returns-then-branch-clause-went g c =
    reads _ _ _ _ _ c.has_start.result _ _ _ _ c.has_start.ensures.tried c.requires.kept

pub returns-clause-went : goal.returns-clause-went
returns-clause-went g c =
    goes_on _ _ _ _ _ _ _ _
    (reads _ _ _ _ _ c.has_start.result _ _ _ _ c.has_start.ensures.tried c.requires.kept)
    (reads _ _ _ _ _ c.start_behind-2.result _ _ _ _ c.start_behind-2.ensures.tried (kept_along _ _ _ _ c.has_start.ensures.tried.same c.requires.kept))
