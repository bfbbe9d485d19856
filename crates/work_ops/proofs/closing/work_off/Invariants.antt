use Rattle.std.proofs.Common.{vec_len}
use Rattle.work_ops.specs.inner.Working.{Continues, to_do}
use Rattle.work_ops.proofs.closing.work_off.Given as goal

-- the state is kept, and what was known is known
abbrev pub invariant-loop : goal.invariant-loop
invariant-loop g l = Continues g.J.Job.map g.J.Job.seeds l.fn.desk.state.maps l.desk.state.maps

-- what there is to do
abbrev pub decreases-loop : goal.decreases-loop
decreases-loop g l = to_do l.desk.state.maps (vec_len l.desk.names)
