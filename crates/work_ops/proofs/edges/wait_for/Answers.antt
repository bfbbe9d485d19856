use Rattle.work_ops.proofs.GoingOn.{goes_on}
use Rattle.std.proofs.lemmas.Result.{on_ok_weaker}
use Rattle.work_ops.proofs.Reasons.{called}
use Rattle.work_ops.proofs.edges.wait_for.Goals as goal

pub returns-clause-went : goal.returns-clause-went
returns-clause-went g c =
    (goes_on _ _ _ _ _ _ _ _
    c.enter.ensures.went
    c.place_wait.ensures.went)

pub returns-clause-called : goal.returns-clause-called
returns-clause-called g c =
    on_ok_weaker c.place_wait.result
    (λ waits. called _ _ c.args.k c.args.target c.args.fall c.end_of-end.result c.requires.call c.end_of-end.ensures
    (c.place_wait.ensures.went.remembers _ (c.enter.ensures.went.remembers _ c.requires.start))
    waits)
    c.place_wait.ensures.waits
