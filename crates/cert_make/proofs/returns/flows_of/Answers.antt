use Rattle.std.proofs.Common.{◌≡◌, length, sym, arith}
use Rattle.cert_make.proofs.Flowing.{one_flow, all_flows}
use Rattle.cert_ends.proofs.Placed.{no_return}
use Rattle.cert_make.proofs.returns.flows_of.Goals as goal

pub loop-i-preserved : goal.loop-i-preserved
loop-i-preserved g c =
    one_flow (g.C.Chains.map c.args.code.now) c.args.lines.now c.loop-i.i c.loop-i.flows.items c.push.new.self.items no_return c.flow.result c.loop-i-test.true c.loop-i.invariant c.flow.ensures.flow c.in_ok-push.ensures.items

pub returns : goal.returns
returns g c =
    let last : c.loop-i.i ≡ length c.args.lines.now = omega arith in
    all_flows (g.C.Chains.map c.args.code.now) c.args.lines.now c.loop-i.i c.loop-i.flows.items (sym last) c.loop-i.invariant
