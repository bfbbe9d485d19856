use Rattle.std.proofs.Common.{ap, ◌∙◌, subst, sym}
use Rattle.address_map.specs.Joined.{joined}
use Rattle.address_map.specs.Read.{IsRead}
use Rattle.address_map.specs.inner.Grouped.{place_of, AreParts}
use Rattle.address_map.proofs.AmongParts.{found_in, among_parts}
use Rattle.address_map.proofs.Gathered.{reads_as, none_gathered, more_gathered, all_gathered, parts_ahead, part_or_later, no_parts}
use Rattle.address_map.proofs.region.Region.read_into.Goals as goal

pub loop-chunk-init : goal.loop-chunk-init
loop-chunk-init g c =
    none_gathered _ _ _
    (parts_ahead (g.G.Reading.item c.args.reading.now) c.as_slice-chunk-items.result.now place_of (subst (AreParts place_of) (sym c.as_slice-chunk-items.ensures.value) c.self.invariant) c.args.self.now (ap joined c.as_slice-chunk-items.ensures.value ∙ c.self.view_is))

pub loop-chunk-preserved : goal.loop-chunk-preserved
loop-chunk-preserved g c =
    let read = g.G.Reading.item c.args.reading.now in
    let parts = c.as_slice-chunk-items.result.now in
    more_gathered _ _ _ _ (IsRead read c.chunk-item.result) _ _ c.loop-chunk.invariant c.in_ok-read_into.ensures
    (λ it here. among_parts (reads_as read) place_of parts (subst (AreParts place_of) (sym c.as_slice-chunk-items.ensures.value) c.self.invariant) c.args.self.now (ap joined c.as_slice-chunk-items.ensures.value ∙ c.self.view_is) it
    (found_in (reads_as read) parts _ _ c.loop-chunk-test.true c.chunk-item.is it here))
    (part_or_later read parts _ c.chunk-item.result c.loop-chunk-test.true c.chunk-item.is)

pub returns : goal.returns
returns g c =
    all_gathered _ _ _ _ c.loop-chunk.invariant
    (no_parts (g.G.Reading.item c.args.reading.now) c.as_slice-chunk-items.result.now c.loop-chunk.chunk-index c.loop-chunk-test.false)
