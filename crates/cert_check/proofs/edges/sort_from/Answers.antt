use Rattle.std.proofs.Common.{sym}
use Rattle.outline_funcs.proofs.PartSorted.{part_sorted}
use Rattle.cert_check.proofs.edges.sort_from.Goals as goal

pub returns : goal.returns
returns c =
    part_sorted c.args.edges.now.items c.deref_mut.result.now c.sort_unstable.new.self c.min-from.result _ c.args.edges.now.len c.deref_mut.ensures.value
    (sym c.deref_mut.ensures.len) c.sort_unstable.ensures.permutation
