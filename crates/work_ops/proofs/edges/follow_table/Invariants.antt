use Rattle.std.proofs.Common.{ℕ, ◌<◌, ◌≡◌}
use Rattle.std.specs.Prelude.{slice_get, Some}
use Rattle.work_ops.specs.Going.{Went}
use Rattle.work_ops.specs.Done.{IsFollowed}
use Rattle.work_ops.proofs.edges.follow_table.Given as goal

-- the targets so far were followed
abbrev pub invariant-loop-to : goal.invariant-loop-to
invariant-loop-to g l =
    Went g.J.Job.map g.J.Job.seeds g.P.Place.maps g.P.Place.knows g.P.Place.busies l.initial.place l.place
    × ((j : ℕ) → j < l.to-index → (to : ℕ) → slice_get l.to-items j ≡ Some to → IsFollowed g.J.Job.map (g.P.Place.knows l.place) l.k to)
