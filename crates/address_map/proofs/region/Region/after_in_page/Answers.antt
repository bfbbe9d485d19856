use Rattle.std.proofs.Common.{ap, ◌%◌, arith}
use Rattle.std.specs.Prelude.{Some}
use Rattle.address_map.specs.inner.Grouped.{place_of}
use Rattle.address_map.proofs.KeysAfter.{page_in_part, none_outside}
use Rattle.address_map.proofs.region.Region.after_in_page.Goals as goal

pub returns-then-place-len : goal.returns-then-place-len
returns-then-place-len g c =
    page_in_part c.self.inside.chunks.items c.self.invariant c.args.self.now c.self.view_is (Some c.args.a) c.place-place.result c.index.result.now
    (omega (arith, c.if-place-len.true, c.len.ensures, c.self.inside.chunks.ok.0)) c.index.ensures c.args.a c.place-place.ensures c.requires c.after_in_page.result c.after_in_page.ensures

pub returns-else-place-len : goal.returns-else-place-len
returns-else-place-len g c = λ x h.
    none_outside place_of c.self.inside.chunks.items c.self.invariant c.args.self.now c.self.view_is (Some c.args.a) c.args.a c.place-place.result c.place-place.ensures
    (λ below. omega (arith, below, c.if-place-len.false, c.len.ensures, c.self.inside.chunks.ok.0)) x h.0 (ap (λ n. n % 256) h.2)
