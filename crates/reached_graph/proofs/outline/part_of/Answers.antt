use Rattle.std.proofs.Common.{◌≡◌, ◌<◌, length, arith}
use Rattle.reached_graph.proofs.Making.{more_made, part_made}
use Rattle.reached_graph.proofs.outline.part_of.Goals as goal

pub add_block-requires-clause-returns : goal.add_block-requires-clause-returns
add_block-requires-clause-returns g c κs within =
    let inside : c.loop-i.i < length c.args.lasts.now = omega (arith, c.loop-i-test.true, c.requires.sizes) in
    (c.requires.returns.0, c.requires.returns.1 c.loop-i.i _ inside, c.requires.returns.2)

pub loop-i-preserved : goal.loop-i-preserved
loop-i-preserved g c =
    more_made (g.C.Chains.map c.args.code.now) c.args.starts.now c.args.lasts.now c.loop-i.i c.loop-i.blocks.items c.add_block.new.blocks.items c.loop-i.edges.items c.add_block.new.edges.items c.loop-i.invariant
    c.in_ok-add_block.ensures

pub returns : goal.returns
returns g c =
    let xs = c.args.starts.now in
    let whole : c.loop-i.i ≡ length xs = omega arith in
    part_made (g.C.Chains.map c.args.code.now) xs c.args.lasts.now c.loop-i.i whole c.loop-i.blocks.items c.loop-i.edges.items c.by_source.result.items c.loop-i.invariant c.by_source.ensures
