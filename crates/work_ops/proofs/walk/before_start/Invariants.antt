use Rattle.std.proofs.Common.{◌≡◌, ◌-◌, ◌^◌, IsSome}
use Rattle.cfg_model.specs.Program.Chain.{OnChain}
use Rattle.work_ops.specs.Going.{Went}
use Rattle.work_ops.proofs.walk.before_start.Given as goal

-- the walk is at an address of the chain, and the place was read alone
abbrev pub invariant-loop-start : goal.invariant-loop-start
invariant-loop-start g l = record {
  reaches : OnChain g.J.Job.map l.s l.at;
  known : IsSome (g.J.Job.map l.at);
  went : Went g.J.Job.map g.J.Job.seeds g.P.Place.maps g.P.Place.knows g.P.Place.busies l.initial.place l.place;
  same : g.P.Place.maps l.place ≡ g.P.Place.maps l.initial.place;
}

abbrev pub decreases-loop-start : goal.decreases-loop-start
decreases-loop-start g l = 2 ^ 64 - l.from
