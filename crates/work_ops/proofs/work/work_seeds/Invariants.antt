use Rattle.work_ops.specs.inner.Working.{Continues}
use Rattle.work_ops.proofs.work.work_seeds.Given as goal

-- the state is kept, and what was known is known
abbrev pub invariant-loop-seed : goal.invariant-loop-seed
invariant-loop-seed g l = Continues g.J.Job.map g.J.Job.seeds l.initial.desk.state.maps l.desk.state.maps
