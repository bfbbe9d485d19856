use Rattle.std.proofs.Common.{ap, ◌∙◌, subst, sym, arith}
use Rattle.std.specs.FinMap as maps
use Rattle.std.specs.Ordering.{nat_cmp}
use Rattle.address_map.specs.inner.Entries.{pairs}
use Rattle.address_map.specs.Pairs.{AreApart}
use Rattle.address_map.proofs.Among.{one_done, found_at_pair, all_done}
use Rattle.address_map.proofs.EntriesLinked.{length_pairs, pair_is}
use Rattle.address_map.proofs.chunk.Chunk.find_by.Goals as goal

pub returns-in-Some-clause-some : goal.returns-in-Some-clause-some
returns-in-Some-clause-some g c =
    found_at_pair (g.L.Look.finds c.args.look.now) (pairs c.as_slice-entry-items.result.now) c.loop-entry.entry-index c.args.self.now
    (ap (λ es. maps.from_entries (pairs es)) c.as_slice-entry-items.ensures.value ∙ c.self.view_is)
    (subst (λ es. AreApart nat_cmp (pairs es)) (sym c.as_slice-entry-items.ensures.value) c.self.invariant.apart)
    (c.entry-item.result.key, c.entry-item.result.value) (omega (arith, c.loop-entry-test.true, length_pairs c.as_slice-entry-items.result.now))
    (pair_is _ _ c.loop-entry-test.true c.entry-item.result c.entry-item.is) c.in-Some.found c.in-Some.ensures.some

pub loop-entry-preserved : goal.loop-entry-preserved
loop-entry-preserved g c =
    one_done (g.L.Look.finds c.args.look.now) (pairs c.as_slice-entry-items.result.now) c.loop-entry.entry-index
    (c.entry-item.result.key, c.entry-item.result.value) (omega (arith, c.loop-entry-test.true, length_pairs c.as_slice-entry-items.result.now))
    (pair_is _ _ c.loop-entry-test.true c.entry-item.result c.entry-item.is) c.in_default.ensures.none c.loop-entry.invariant

pub returns-clause-none : goal.returns-clause-none
returns-clause-none g c =
    all_done (g.L.Look.finds c.args.look.now) (pairs c.as_slice-entry-items.result.now) c.loop-entry.entry-index c.args.self.now
    (ap (λ es. maps.from_entries (pairs es)) c.as_slice-entry-items.ensures.value ∙ c.self.view_is)
    (omega (arith, c.loop-entry-test.false, length_pairs c.as_slice-entry-items.result.now)) c.loop-entry.invariant
