use Rattle.std.proofs.Common.{vec_len}
use Rattle.work_ops.specs.inner.Working.{Continues, to_do}
use Rattle.work_ops.proofs.work.work_listed.Given as goal

-- the state is kept, and what was known is known
abbrev pub invariant-loop-name : goal.invariant-loop-name
invariant-loop-name g l = Continues g.J.Job.map g.J.Job.seeds l.initial.desk.state.maps l.desk.state.maps

-- what there is to do
abbrev pub decreases-loop-name : goal.decreases-loop-name
decreases-loop-name g l = to_do l.desk.state.maps (vec_len l.desk.names)
