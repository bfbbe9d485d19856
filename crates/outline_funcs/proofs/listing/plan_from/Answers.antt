use Rattle.outline_funcs.proofs.Parts.{same_outline, plan_serves, plan_makes}
use Rattle.outline_funcs.proofs.listing.plan_from.Goals as goal

pub entered_of-requires-clause-blocks : goal.entered_of-requires-clause-blocks
entered_of-requires-clause-blocks g c =
    let outline = same_outline (g.C.Chains.map c.args.code.now) c.args.seeds.now _ _ _ _ c.as_slice-blocks.ensures c.as_slice-edges.ensures c.requires.outline in
    outline.all_blocks.in_order

pub returns-clause-serves : goal.returns-clause-serves
returns-clause-serves g c =
    let map = g.C.Chains.map c.args.code.now in
    let seeds = c.args.seeds.now in
    let outline = same_outline map seeds _ _ _ _ c.as_slice-blocks.ensures c.as_slice-edges.ensures c.requires.outline in
    plan_serves map seeds c.know_laws.ensures c.requires.seeds _ outline c.args.entries.items
    (rw c.as_slice-edges.ensures c.requires.entries) (rw c.as_slice-blocks.ensures (rw c.as_slice-edges.ensures c.requires.firsts)) (rw c.deref.ensures.value at c.in_ok-entered.ensures)

pub returns-clause-makes : goal.returns-clause-makes
returns-clause-makes g c =
    let map = g.C.Chains.map c.args.code.now in
    let seeds = c.args.seeds.now in
    let outline = same_outline map seeds _ _ _ _ c.as_slice-blocks.ensures c.as_slice-edges.ensures c.requires.outline in
    plan_makes map seeds c.know_laws.ensures c.requires.seeds _ outline c.args.entries.items
    (rw c.as_slice-edges.ensures c.requires.entries) (rw c.as_slice-blocks.ensures (rw c.as_slice-edges.ensures c.requires.firsts)) (rw c.deref.ensures.value at c.in_ok-entered.ensures)
