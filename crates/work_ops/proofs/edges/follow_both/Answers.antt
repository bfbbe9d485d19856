use Rattle.std.specs.Option.{ForSome}
use Rattle.work_ops.specs.Done.{IsFollowed}
use Rattle.work_ops.proofs.GoingOn.{goes_on, always}
use Rattle.work_ops.proofs.Reasons.{followed_more}
use Rattle.work_ops.proofs.edges.follow_both.Goals as goal

pub returns-clause-went : goal.returns-clause-went
returns-clause-went g c =
    goes_on _ _ _ _ _ _ _ _
    c.follow_some.ensures.went
    c.follow_some-2.ensures.went

pub returns-clause-taken : goal.returns-clause-taken
returns-clause-taken g c =
    always _ (ForSome c.args.taken (IsFollowed g.J.Job.map (g.P.Place.knows c.follow_some-2.new.place) c.args.k))
    (λ to is. followed_more _ _ _ c.follow_some-2.ensures.went.remembers c.args.k to (c.in_ok-follow_some.ensures.followed to is))
