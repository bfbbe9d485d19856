use Rattle.std.proofs.Common.{refl, sym, subst, arith, ◌∙◌, ◌<◌, length}
use Rattle.std.specs.Prelude.{Some, None}
use Rattle.address_map.specs.Joined.{joined}
use Rattle.address_map.specs.Least.{IsLeast}
use Rattle.address_map.specs.Keys.{IsKeyAbove}
use Rattle.address_map.specs.inner.Grouped.{place_of, AreInRegion}
use Rattle.address_map.proofs.KeysAfter.{found_in_part, past_part, past_all, place_order, home_is, from_part, same_chunk, page_reached}
use Rattle.address_map.proofs.region.Region.after_from.Goals as goal

pub loop-place-init : goal.loop-place-init
loop-place-init g c = λ x h. (c.requires.ahead x (subst (λ m. IsKeyAbove m c.args.a x) c.self.view_is h)).0

pub after-requires-clause-together : goal.after-requires-clause-together
after-requires-clause-together g c = λ x y hx hy.
    let inside : c.loop-place.place < length c.self.inside.chunks.items = omega (arith, c.loop-place-test.true, c.len-place-end.ensures, c.self.inside.chunks.ok.0) in
    let whole = from_part place_of c.self.inside.chunks.items c.self.invariant c.args.self.now c.self.view_is c.args.a c.loop-place.place c.index.result.now inside c.index.ensures in
    let home = home_is place_of c.self.inside.chunks.items c.self.invariant c.args.self.now c.self.view_is c.args.a c.loop-place.place c.index.result.now inside c.index.ensures in
    same_chunk x y (c.requires.together.1 x (whole x hx) ∙ sym (c.requires.together.1 y (whole y hy))) (home x hx ∙ sym (home y hy))

pub after-requires-clause-ahead : goal.after-requires-clause-ahead
after-requires-clause-ahead g c = λ x h.
    let inside : c.loop-place.place < length c.self.inside.chunks.items = omega (arith, c.loop-place-test.true, c.len-place-end.ensures, c.self.inside.chunks.ok.0) in
    let has = from_part place_of c.self.inside.chunks.items c.self.invariant c.args.self.now c.self.view_is c.args.a c.loop-place.place c.index.result.now inside c.index.ensures x h.0 in
    let home = home_is place_of c.self.inside.chunks.items c.self.invariant c.args.self.now c.self.view_is c.args.a c.loop-place.place c.index.result.now inside c.index.ensures x h.0 in
    page_reached c.args.start c.args.page c.loop-place.place c.page_at.result x c.page_at.ensures home (c.requires.ahead x (has, h.1)).1

pub returns-in-Some : goal.returns-in-Some
returns-in-Some g c =
    let one = subst (λ m. AreInRegion m c.requires.together.0) (sym c.self.view_is) c.requires.together.1 in
    subst (λ m. IsLeast (IsKeyAbove m c.args.a) (Some c.in-Some.k)) c.self.view_is
    (found_in_part place_of c.self.inside.chunks.items c.self.invariant (joined c.self.inside.chunks.items) refl c.args.a c.loop-place.place c.index.result.now
    (omega (arith, c.loop-place-test.true, c.len-place-end.ensures, c.self.inside.chunks.ok.0)) c.index.ensures
    (λ x y hx hy. place_order x y (one x hx ∙ sym (one y hy))) c.loop-place.invariant c.in-Some.k c.in-Some.ensures)

pub loop-place-preserved : goal.loop-place-preserved
loop-place-preserved g c =
    past_part place_of c.self.inside.chunks.items c.self.invariant (joined c.self.inside.chunks.items) refl c.args.a c.loop-place.place c.index.result.now
    (omega (arith, c.loop-place-test.true, c.len-place-end.ensures, c.self.inside.chunks.ok.0)) c.index.ensures
    c.loop-place.invariant (subst (IsLeast (IsKeyAbove c.index.result.now c.args.a)) c.in_default.is c.after.ensures)

pub returns : goal.returns
returns g c =
    subst (λ m. IsLeast (IsKeyAbove m c.args.a) None) c.self.view_is
    (past_all place_of c.self.inside.chunks.items c.self.invariant (joined c.self.inside.chunks.items) refl c.args.a c.loop-place.place
    (omega (arith, c.loop-place-test.false, c.len-place-end.ensures, c.self.inside.chunks.ok.0)) c.loop-place.invariant)
