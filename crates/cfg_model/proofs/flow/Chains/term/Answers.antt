use Rattle.cfg_model.specs.Program.Chain.{OnChain}
use Rattle.cfg_model.proofs.Program.ChainSteps.{chain_step}
use Rattle.cfg_model.proofs.Graphs.Runs.{goes_up}
use Rattle.cfg_model.proofs.flow.Chains.term.Goals as goal

pub loop-next-init : goal.loop-next-init
loop-next-init g c = record { reaches = OnChain.here; known = c.requires }

pub loop-next-preserved : goal.loop-next-preserved
loop-next-preserved g c =
    let map = g.Self.Chains.map c.args.self.now in
    let onward = c.in-Straight.ensures.flow in
    record {
      reaches = chain_step map c.args.a c.loop-next.k c.in-Straight.next c.loop-next.invariant.reaches onward;
      known = (goes_up map c.loop-next.k c.in-Straight.next c.flow.ensures.lawful onward).2;
    }
