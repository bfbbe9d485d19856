use Rattle.std.proofs.Common.{ap, ◌∙◌, subst, sym}
use Rattle.address_map.specs.Joined.{joined}
use Rattle.address_map.specs.inner.Grouped.{place_of, AreParts}
use Rattle.address_map.proofs.AmongParts.{none_passed, passed_more, passed_all, found_in, among_parts, in_parts}
use Rattle.address_map.proofs.region.Region.find_by.Goals as goal

pub loop-chunk-init : goal.loop-chunk-init
loop-chunk-init g c = none_passed (g.L.Look.finds c.args.look.now) _

pub loop-chunk-preserved : goal.loop-chunk-preserved
loop-chunk-preserved g c = passed_more (g.L.Look.finds c.args.look.now) _ _ _ c.loop-chunk-test.true c.chunk-item.is c.loop-chunk.invariant c.in_default.ensures.none

pub returns-in-Some-clause-some : goal.returns-in-Some-clause-some
returns-in-Some-clause-some g c =
    among_parts (g.L.Look.finds c.args.look.now) place_of c.as_slice-chunk-items.result.now (subst (AreParts place_of) (sym c.as_slice-chunk-items.ensures.value) c.self.invariant) c.args.self.now (ap joined c.as_slice-chunk-items.ensures.value ∙ c.self.view_is) c.in-Some.found
    (found_in (g.L.Look.finds c.args.look.now) _ _ _ c.loop-chunk-test.true c.chunk-item.is _ c.in-Some.ensures.some)

pub returns-clause-none : goal.returns-clause-none
returns-clause-none g c = λ thing found.
    passed_all (g.L.Look.finds c.args.look.now) _ _ c.loop-chunk-test.false c.loop-chunk.invariant thing
    (in_parts (g.L.Look.finds c.args.look.now) place_of c.as_slice-chunk-items.result.now (subst (AreParts place_of) (sym c.as_slice-chunk-items.ensures.value) c.self.invariant) c.args.self.now (ap joined c.as_slice-chunk-items.ensures.value ∙ c.self.view_is) thing found)
