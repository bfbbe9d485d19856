use Rattle.std.proofs.Common.{arith}
use Rattle.cfg_model.specs.Program.Chain.{OnChain}
use Rattle.cfg_model.proofs.Program.ChainSteps.{chain_step}
use Rattle.cfg_model.proofs.Program.ChainPlaces.{ends_at, still_ahead, stepped_over}
use Rattle.cfg_model.proofs.Graphs.Runs.{goes_up}
use Rattle.core_state.proofs.along.climb.Goals as goal

pub loop-next-init : goal.loop-next-init
loop-next-init g c = record { reaches = OnChain.here; known = c.requires; ahead = λ x above chain. chain }

pub loop-next-preserved : goal.loop-next-preserved
loop-next-preserved g c =
    let map = g.W.Walk.map c.args.walk.now in
    let at = c.loop-next.at in
    let next = c.in-Some.next in
    let onward = c.in-Some.ensures.onward in
    let up = goes_up map at next c.behind.ensures.lawful onward in
    record {
      reaches = chain_step map c.args.s at next c.loop-next.invariant.reaches onward;
      known = up.2;
      ahead = λ x above chain. still_ahead map at next c.args.k x up.0 (omega arith) above onward (c.loop-next.invariant.ahead x above chain);
    }

pub returns-then-next-k-clause-found : goal.returns-then-next-k-clause-found
returns-then-next-k-clause-found g c chain =
    let map = g.W.Walk.map c.args.walk.now in
    stepped_over map c.behind.ensures.lawful c.loop-next.at c.in-Some.next c.args.k (omega arith) c.in-Some.ensures.onward (c.loop-next.invariant.ahead c.args.k (omega arith) chain)

pub returns-in_default-clause-found : goal.returns-in_default-clause-found
returns-in_default-clause-found g c chain =
    let map = g.W.Walk.map c.args.walk.now in
    ends_at map c.loop-next.at c.args.k c.in_default.ensures.ends (c.loop-next.invariant.ahead c.args.k (omega arith) chain)
