use Rattle.std.proofs.Common.{rules}
use Rattle.std.proofs.lemmas.List.Sorted.{IsNonDecreasingBy-from_sort_by_key}
use Rattle.rv_machine.specs.declared.extent.Extent.{Extent}
use Rattle.rv_machine.proofs.extent.sorted_by_start.Goals as goal

pub returns-clause-sorted : goal.returns-clause-sorted
returns-clause-sorted c = IsNonDecreasingBy-from_sort_by_key (λ (e : Extent). e.start) _ c.sort_unstable_by_key.ensures.sorted (λ a r q k. search rules)
