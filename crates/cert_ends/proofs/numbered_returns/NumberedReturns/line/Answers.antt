use Rattle.std.proofs.Common.{◌≡◌, ◌+◌, ◌-◌, arith}
use Rattle.cert_ends.specs.Places.{place_by}
use Rattle.cert_ends.proofs.Numbers.{line_found}
use Rattle.cert_ends.proofs.Placed.{no_return}
use Rattle.cert_ends.proofs.numbered_returns.NumberedReturns.line.Goals as goal

pub bounds-self-place : goal.bounds-self-place
bounds-self-place g c =
    let is : place_by (g.C.Numbered.number c.args.code.now) c.args.self.now.places.items c.args.k ≡ (c.place-place.result - 1) + 1 = omega (arith, c.place-place.ensures, c.if-place-eq0.false) in
    (c.requires.numbered.some c.args.k (c.place-place.result - 1) c.requires.stands is).0

pub returns : goal.returns
returns g c =
    let is : place_by (g.C.Numbered.number c.args.code.now) c.args.self.now.places.items c.args.k ≡ (c.place-place.result - 1) + 1 = omega (arith, c.place-place.ensures, c.if-place-eq0.false) in
    let found = c.requires.numbered.some c.args.k (c.place-place.result - 1) c.requires.stands is in
    line_found c.args.self.now.lines.now (c.place-place.result - 1) c.args.k no_return found.0 found.1
