use Rattle.std.proofs.Common.{get_or}
use Rattle.cert_make.proofs.Ended.{none_ended, one_ended, all_ended}
use Rattle.cert_make.proofs.Placed.{at_place}
use Rattle.cert_make.proofs.chain_ends.Ends.of_leaders.Goals as goal

pub loop-a-preserved : goal.loop-a-preserved
loop-a-preserved g c =
    one_ended (g.C.Chains.map c.args.code.now) c.args.leaders.now c.loop-a.a-index (get_or c.args.leaders.now c.loop-a.a-index 0) c.loop-a.ends c.add.new.self
    (at_place c.args.leaders.now c.loop-a.a-index c.loop-a-test.true) c.loop-a.invariant c.in_ok-add.ensures

pub loop-a-init : goal.loop-a-init
loop-a-init g c = none_ended (g.C.Chains.map c.args.code.now) c.args.leaders.now _ c.new.ensures.items c.new-2.ensures.items

pub returns : goal.returns
returns g c = all_ended (g.C.Chains.map c.args.code.now) c.args.leaders.now c.loop-a.a-index c.loop-a.ends c.loop-a-test.false c.loop-a.invariant
