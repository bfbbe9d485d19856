use Rattle.std.proofs.Common.{◌≡◌}
use Rattle.work_ops.specs.Going.{Went}
use Rattle.work_ops.proofs.walk.next_start.Given as goal

-- the place was read alone
abbrev pub invariant-loop-line : goal.invariant-loop-line
invariant-loop-line g l =
    Went g.J.Job.map g.J.Job.seeds g.P.Place.maps g.P.Place.knows g.P.Place.busies l.initial.place l.place
    × (g.P.Place.maps l.place ≡ g.P.Place.maps l.initial.place)
