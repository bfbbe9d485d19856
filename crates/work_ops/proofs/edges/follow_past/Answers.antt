use Rattle.std.specs.Option.{ForSome}
use Rattle.work_ops.specs.Done.{IsFollowed}
use Rattle.work_ops.proofs.GoingOn.{goes_on, always}
use Rattle.work_ops.proofs.Reasons.{followed_more}
use Rattle.work_ops.proofs.edges.follow_past.Goals as goal

pub returns-clause-went : goal.returns-clause-went
returns-clause-went g c =
    goes_on _ _ _ _ _ _ _ _
    c.follow_some.ensures.went
    c.follow_pad.ensures.went

pub returns-clause-fall : goal.returns-clause-fall
returns-clause-fall g c =
    always _ (ForSome c.args.fall (IsFollowed g.J.Job.map (g.P.Place.knows c.follow_pad.new.place) c.args.k))
    (λ to is. followed_more _ _ _ c.follow_pad.ensures.went.remembers c.args.k to (c.in_ok-follow_some.ensures.followed to is))
