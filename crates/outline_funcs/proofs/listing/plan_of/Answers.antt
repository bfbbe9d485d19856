use Rattle.outline_funcs.proofs.Parts.{same_outline, edges_rise}
use Rattle.outline_funcs.proofs.listing.plan_of.Goals as goal

pub firsts_of-requires-clause-blocks : goal.firsts_of-requires-clause-blocks
firsts_of-requires-clause-blocks g c =
    let outline = same_outline (g.C.Chains.map c.args.code.now) c.args.seeds.now _ _ _ _ c.as_slice-blocks.ensures c.as_slice-edges.ensures c.requires.outline in
    outline.all_blocks.in_order

pub firsts_of-requires-clause-edges : goal.firsts_of-requires-clause-edges
firsts_of-requires-clause-edges g c =
    let outline = same_outline (g.C.Chains.map c.args.code.now) c.args.seeds.now _ _ _ _ c.as_slice-blocks.ensures c.as_slice-edges.ensures c.requires.outline in
    edges_rise _ _ _ _ outline
