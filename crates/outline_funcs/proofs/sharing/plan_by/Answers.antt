use Rattle.outline_funcs.proofs.Parts.{same_outline, edges_rise}
use Rattle.outline_funcs.proofs.sharing.plan_by.Goals as goal

pub join-entries-requires-after_bounds : goal.join-entries-requires-after_bounds
join-entries-requires-after_bounds g c κs within =
    let outline = same_outline (g.C.Chains.map c.args.code.now) c.args.seeds.now _ _ _ _ c.as_slice-blocks.ensures c.as_slice-edges.ensures c.requires.outline in
    (tt, (outline.all_blocks.in_order, edges_rise _ _ _ _ outline))
