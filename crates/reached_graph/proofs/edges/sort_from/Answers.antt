use Rattle.std.proofs.Common.{sym}
use Rattle.outline_funcs.proofs.PartSorted.{part_sorted}
use Rattle.reached_graph.proofs.edges.sort_from.Goals as goal

pub returns-then-len-from-eq2 : goal.returns-then-len-from-eq2
returns-then-len-from-eq2 c =
    part_sorted c.args.edges.now.items c.deref_mut.result.now c.sort_two.new.edges c.min-from.result _ c.args.edges.now.len c.deref_mut.ensures.value
    (sym c.deref_mut.ensures.len) c.sort_two.ensures
