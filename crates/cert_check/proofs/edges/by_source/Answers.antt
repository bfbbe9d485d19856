use Rattle.std.proofs.lemmas.List.Sorted.{Contains-permutation, IsPermutation-sym}
use Rattle.cert_check.proofs.edges.by_source.Goals as goal

pub returns-clause-same : goal.returns-clause-same
returns-clause-same c =
    let old = c.args.edges.items in
    let made = c.sort.new.self.items in
    let moved = c.sort.ensures.permutation in
    λ edge. (
      λ there. Contains-permutation made old edge (IsPermutation-sym old made moved) ((c.edges_in_order.ensures.same edge).0 there),
      λ there. (c.edges_in_order.ensures.same edge).1 (Contains-permutation old made edge moved there),
    )
