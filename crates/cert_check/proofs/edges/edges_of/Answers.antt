use Rattle.std.proofs.Common.{refl, arith}
use Rattle.cert_check.proofs.Ways.{more_gained, ways_complete, ways_sound}
use Rattle.cert_check.proofs.edges.edges_of.Goals as goal

pub loop-i-preserved : goal.loop-i-preserved
loop-i-preserved g c =
    more_gained (g.C.Chains.map c.args.code.now) c.args.leads.now c.args.returns.now.lines.now c.args.runs.now c.loop-i.i c.loop-i.edges.items c.add_ways.new.edges.items _ _ c.loop-i.invariant refl refl c.in_ok-add_ways.ensures

pub returns : goal.returns
returns g c =
    let map = g.C.Chains.map c.args.code.now in
    let leads = c.args.leads.now in
    let returns = c.args.returns.now.lines.now in
    let runs = c.args.runs.now in
    let edges = c.loop-i.edges.items in
    record {
      in_order = c.by_source.ensures.in_order;
      exact = λ edge. (
        λ listed. ways_sound map leads returns runs c.requires.runs edges c.loop-i.i (omega (arith, c.requires.runs.as_many)) (omega (arith, c.requires.runs.as_many)) c.loop-i.invariant edge ((c.by_source.ensures.same edge).0 listed),
        λ way. (c.by_source.ensures.same edge).1 (ways_complete map leads returns runs c.requires.runs edges c.loop-i.i (omega (arith, c.requires.runs.as_many)) (omega (arith, c.requires.runs.as_many)) c.loop-i.invariant edge way),
      );
    }
