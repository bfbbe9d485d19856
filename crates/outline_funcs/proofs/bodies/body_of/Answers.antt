use Rattle.std.proofs.Common.{◌≡◌, length, get_or, subst, arith}
use Rattle.std.specs.List.{Contains}
use Rattle.std.proofs.lemmas.List.Elements.{Contains-get_or}
use Rattle.std.proofs.lemmas.List.Sorted.{Contains-permutation, IsNonDecreasingBy-from_sort, IsPermutation-sym}
use Rattle.outline_funcs.proofs.Sorting.{body_of_numbers, starts_weaker}
use Rattle.outline_funcs.proofs.bodies.body_of.Goals as goal

pub starts_of-requires : goal.starts_of-requires
starts_of-requires c = λ k d lt.
    let order = c.find.new.found.order.items in
    let sorted = c.sort_unstable.new.self.items in
    let here : Contains sorted (get_or c.as_slice.result.now k d) =
    subst (λ l. Contains l (get_or c.as_slice.result.now k d)) c.as_slice.ensures.value (Contains-get_or c.as_slice.result.now k d lt) in
    let low = c.in_ok-find.ensures.stamped.known _ (Contains-permutation sorted order _ (IsPermutation-sym order sorted c.sort_unstable.ensures.permutation) here) in
    let same : length c.find.new.found.stamps.items ≡ length c.args.exits.now.blocks.now = c.in_ok-find.ensures.as_many in
    omega arith

pub returns-clause-body : goal.returns-clause-body
returns-clause-body c =
    let order = c.find.new.found.order.items in
    let sorted = c.sort_unstable.new.self.items in
    starts_weaker c.starts_of.result
    (λ v zip. body_of_numbers c.args.exits.now c.requires.exits c.args.entry c.requires.entry order sorted v.items
    c.in_ok-find.ensures.stamped.apart c.sort_unstable.ensures.permutation
    (IsNonDecreasingBy-from_sort (λ x. x) sorted c.sort_unstable.ensures.sorted) c.in_ok-find.ensures.exact zip)
    (rw c.as_slice.ensures.value at c.starts_of.ensures)
