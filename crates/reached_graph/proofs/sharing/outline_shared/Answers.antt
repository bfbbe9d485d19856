use Rattle.std.proofs.Common.{length, arith}
use Rattle.reached_graph.proofs.RangeParts.{outline_in}
use Rattle.reached_graph.proofs.sharing.outline_shared.Goals as goal

pub made_by_range-requires-clause-room : goal.made_by_range-requires-clause-room
made_by_range-requires-clause-room g c κs within = rw c.deref.ensures.value (omega (arith, c.in_ok-ranges.ensures.most, c.range_size-size.ensures.most))

pub returns : goal.returns
returns g c = λ seeds known given.
    let map = g.C.Chains.map c.args.code.now in
    let number = g.C.Numbered.number c.args.code.now in
    rw (c.into_outline.ensures.blocks, c.into_outline.ensures.edges, c.in_ok-part.ensures.blocks, c.in_ok-part.ensures.edges)
    (outline_in map number c.know_laws.ensures.rise seeds known c.range_size-size.result (length c.args.marks.now) c.requires.numbers c.in_ok-parts.parts.items (c.in_ok-parts.ensures seeds given) c.in_ok-part.ensures.made)
