use Rattle.std.proofs.Common.{subst, ◌≡◌}
use Rattle.std.specs.Prelude.{IsSome}
use Rattle.std.specs.Ordering.{nat_cmp}
use Rattle.std.specs.FinMap.{find}
use Rattle.address_map.specs.Least.{IsLeast, IsAbove}
use Rattle.address_map.specs.inner.Grouped.{page_of}
use Rattle.address_map.specs.inner.Entries.{pairs}
use Rattle.address_map.proofs.EntriesKept.{least_seen}
use Rattle.address_map.proofs.chunk.Chunk.least_above.Goals as goal

pub returns : goal.returns
returns g c =
    least_seen _ _ c.self.invariant c.args.self.now c.self.view_is c.args.page c.args.a c.least_in_page.result
    (subst (λ es. IsLeast (λ k. IsSome (find nat_cmp k (pairs es)) × IsAbove c.args.a k × (page_of k ≡ c.args.page)) c.least_in_page.result) c.as_slice-2.ensures.value c.least_in_page.ensures)
