use Rattle.std.proofs.lemmas.Option.{MatchOption-at_some}
use Rattle.work_ops.specs.inner.Walking.{IsBeforeStart}
use Rattle.work_ops.proofs.Stops.{stop_there, stop_last}
use Rattle.work_ops.proofs.walk.last_stop.Goals as goal

pub returns-in-Some-clause-stop : goal.returns-in-Some-clause-stop
returns-in-Some-clause-stop g c =
    stop_there g.J.Job.map _ c.args.s c.args.near c.args.k c.in-Some.at c.requires.ends
    (MatchOption-at_some _ (IsBeforeStart g.J.Job.map (g.P.Place.knows c.joining.new.place) c.args.s c.args.near) c.in-Some.at c.in-Some.is c.in_ok-at.ensures.found)

pub returns-in-Some-2-clause-stop : goal.returns-in-Some-2-clause-stop
returns-in-Some-2-clause-stop g c =
    stop_there g.J.Job.map _ c.args.s c.args.near c.args.k c.in-Some-2.at c.requires.ends
    (MatchOption-at_some _ (IsBeforeStart g.J.Job.map (g.P.Place.knows c.before_start.new.place) c.args.s c.args.near) c.in-Some-2.at c.in-Some-2.is c.in_ok-at-2.ensures.found)

pub returns-in-None-clause-stop : goal.returns-in-None-clause-stop
returns-in-None-clause-stop g c = stop_last g.J.Job.map _ c.args.s c.args.k c.requires.ends
