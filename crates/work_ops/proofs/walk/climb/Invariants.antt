use Rattle.std.proofs.Common.{◌-◌, ◌^◌, IsSome}
use Rattle.cfg_model.specs.Program.Chain.{OnChain}
use Rattle.work_ops.proofs.walk.climb.Given as goal

-- the walk is at an address of the chain
abbrev pub invariant-loop-next : goal.invariant-loop-next
invariant-loop-next g l = record {
  reaches : OnChain g.J.Job.map l.a l.at;
  known : IsSome (g.J.Job.map l.at);
}

abbrev pub decreases-loop-next : goal.decreases-loop-next
decreases-loop-next g l = 2 ^ 64 - l.at
