use Rattle.std.proofs.Common.{Some, ap, ◌∙◌}
use Rattle.cfg_model.specs.Program.Chain.{GoesOnTo, OnChain}
use Rattle.cfg_model.proofs.Program.ChainSteps.{chain_step}
use Rattle.cfg_model.proofs.Graphs.Runs.{goes_up}
use Rattle.reached_graph.proofs.blocks.last_to.Goals as goal

pub loop-next-init : goal.loop-next-init
loop-next-init g c = record { on = OnChain.here; stands = c.requires }

pub loop-next-preserved : goal.loop-next-preserved
loop-next-preserved g c =
    let map = g.C.Chains.map c.args.code.now in
    let at = c.loop-next.at in
    let next = c.in-Straight.next in
    let goes : GoesOnTo map at next = c.flow.ensures.flow ∙ ap Some c.in-Straight.is in
    record {
      on = chain_step map c.args.s at next c.loop-next.invariant.on goes;
      stands = (goes_up map at next c.flow.ensures.lawful goes).2;
    }
