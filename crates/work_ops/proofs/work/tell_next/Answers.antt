use mathlib.Core.Logic.{inl}
use Rattle.std.proofs.lemmas.Result.{on_ok_weaker}
use Rattle.work_ops.proofs.Addresses.{none_to_tell, tell_less}
use Rattle.work_ops.proofs.work.tell_next.Goals as goal

pub returns-in-Some-clause-less : goal.returns-in-Some-clause-less
returns-in-Some-clause-less g c =
    on_ok_weaker c.tell.result
    (λ told. inl (tell_less g.J.Job.map g.J.Job.seeds c.ask.ensures c.requires.seeds _ _ c.requires.kept c.tell.ensures.went.remembers c.args.k c.in-Some.w c.ranges.k.fits c.in-Some.ensures told))
    c.tell.ensures.told

pub returns-in-Some-clause-left : goal.returns-in-Some-clause-left
returns-in-Some-clause-left g c =
    on_ok_weaker c.tell.result
    (λ told left. tell_less g.J.Job.map g.J.Job.seeds c.ask.ensures c.requires.seeds _ _ c.requires.kept c.tell.ensures.went.remembers c.args.k c.in-Some.w c.ranges.k.fits c.in-Some.ensures told)
    c.tell.ensures.told

pub returns-in-None-clause-left : goal.returns-in-None-clause-left
returns-in-None-clause-left g c left = absurd (none_to_tell g.J.Job.seeds c.args.desk.now.state.maps c.args.k c.in-None.ensures left)
