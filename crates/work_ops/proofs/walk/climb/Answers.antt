use Rattle.cfg_model.specs.Program.Chain.{OnChain}
use Rattle.cfg_model.proofs.Graphs.Runs.{goes_up}
use Rattle.cfg_model.proofs.Program.ChainSteps.{chain_step}
use Rattle.work_ops.proofs.walk.climb.Goals as goal

pub loop-next-init : goal.loop-next-init
loop-next-init g c = record { reaches = OnChain.here; known = c.requires.stands }

pub loop-next-preserved : goal.loop-next-preserved
loop-next-preserved g c = record {
  reaches = chain_step g.J.Job.map c.args.a c.loop-next.at c.in-Straight.next c.loop-next.invariant.reaches c.in-Straight.ensures;
  known = (goes_up g.J.Job.map c.loop-next.at c.in-Straight.next c.requires.lawful c.in-Straight.ensures).2;
}
