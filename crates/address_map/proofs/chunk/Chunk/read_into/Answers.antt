use Rattle.std.proofs.Common.{◌≡◌, ◌↔◌, ◌⊎◌, ℕ, ◌<◌, length, Contains, ap, ◌∙◌, subst, sym, arith}
use Rattle.std.specs.FinMap as maps
use Rattle.std.specs.Ordering.{nat_cmp}
use Rattle.address_map.specs.inner.Entries.{pairs}
use Rattle.address_map.specs.Pairs.{AreApart}
use Rattle.address_map.proofs.Among.{found_at_pair}
use Rattle.address_map.proofs.EntriesLinked.{length_pairs, pair_is}
use Rattle.address_map.proofs.Gathered.{reads_as, none_gathered, more_gathered, all_gathered, one_pushed, pairs_ahead, pair_or_later, no_pairs}
use Rattle.address_map.proofs.chunk.Chunk.read_into.Goals as goal

pub loop-entry-init : goal.loop-entry-init
loop-entry-init g c =
    none_gathered _ _ _
    (pairs_ahead (g.G.Reading.item c.args.reading.now) (pairs c.as_slice-entry-items.result.now) c.args.self.now (ap (λ es. maps.from_entries (pairs es)) c.as_slice-entry-items.ensures.value ∙ c.self.view_is))

pub loop-entry-preserved : goal.loop-entry-preserved
loop-entry-preserved g c =
    let read = g.G.Reading.item c.args.reading.now in
    let es = pairs c.as_slice-entry-items.result.now in
    let e : ℕ × g.row.T.Denot = (c.entry-item.result.key, c.entry-item.result.value) in
    let below : c.loop-entry.entry-index < length es = omega (arith, c.loop-entry-test.true, length_pairs c.as_slice-entry-items.result.now) in
    let is = pair_is _ _ c.loop-entry-test.true c.entry-item.result c.entry-item.is in
    more_gathered _ _ _ _ (λ it. read c.entry-item.result.key c.entry-item.result.value ≡ it) _ _ c.loop-entry.invariant
    (λ it. subst (λ xs. Contains xs it ↔ (Contains c.loop-entry.items.items it ⊎ (read c.entry-item.result.key c.entry-item.result.value ≡ it))) (sym (rw c.read.ensures at c.in_ok-push.ensures.items))
    (one_pushed c.loop-entry.items.items (read c.entry-item.result.key c.entry-item.result.value) it))
    (found_at_pair (reads_as read) es c.loop-entry.entry-index c.args.self.now (ap (λ es. maps.from_entries (pairs es)) c.as_slice-entry-items.ensures.value ∙ c.self.view_is)
    (subst (λ es. AreApart nat_cmp (pairs es)) (sym c.as_slice-entry-items.ensures.value) c.self.invariant.apart) e below is)
    (pair_or_later read es c.loop-entry.entry-index e below is)

pub returns : goal.returns
returns g c =
    all_gathered _ _ _ _ c.loop-entry.invariant
    (no_pairs (g.G.Reading.item c.args.reading.now) (pairs c.as_slice-entry-items.result.now) c.loop-entry.entry-index (omega (arith, c.loop-entry-test.false, length_pairs c.as_slice-entry-items.result.now)))
