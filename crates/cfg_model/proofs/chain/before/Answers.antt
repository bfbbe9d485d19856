use Rattle.cfg_model.specs.Program.Chain.{OnChain}
use Rattle.cfg_model.proofs.Program.ChainSteps.{chain_step}
use Rattle.cfg_model.proofs.chain.before.Goals as goal

pub loop-next-init : goal.loop-next-init
loop-next-init g c =
    let first = c.towards-next.ensures in
    record { reaches = OnChain.here; onward = first.onward; leads = first.leads; known = first.known }

pub loop-next-preserved : goal.loop-next-preserved
loop-next-preserved g c =
    let map = g.C.Chains.map c.args.code.now in
    let more = c.towards-next-in-loop-next.ensures in
    record {
      reaches = chain_step map c.args.s c.loop-next.at c.loop-next.next c.loop-next.invariant.reaches c.loop-next.invariant.onward;
      onward = more.onward;
      leads = more.leads;
      known = more.known;
    }
