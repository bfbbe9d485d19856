use Rattle.std.proofs.Common.{◌≡◌, ◌+◌, ◌-◌, arith, rules}
use Rattle.cert_make.specs.Inner.Places.{placed_by}
use Rattle.cert_make.proofs.places.Places.of.Goals as goal

pub returns : goal.returns
returns g c =
    let is : placed_by (g.C.Numbered.number c.args.code.now) c.args.self.now.places.items c.args.a ≡ (c.place-place.result - 1) + 1 = omega (arith, c.place-place.ensures, c.if-place-eq0.false) in
    c.requires.placed.some c.args.a (c.place-place.result - 1) (search rules) is
