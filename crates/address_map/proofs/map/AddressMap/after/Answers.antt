use Rattle.std.proofs.Common.{sym, subst}
use Rattle.address_map.specs.Least.{IsLeast}
use Rattle.address_map.specs.Keys.{IsKeyAbove}
use Rattle.address_map.proofs.NearAndFar.{near_own, after_both}
use Rattle.address_map.proofs.map.AddressMap.after.Goals as goal

pub after-requires : goal.after-requires
after-requires g c = near_own c.self.inside.number c.self.inside.near c.self.inside.far c.args.self.now c.self.invariant c.self.view_is

pub returns : goal.returns
returns g c =
    subst (IsLeast (IsKeyAbove c.args.self.now c.args.a)) (sym c.lesser.ensures)
    (after_both c.self.inside.number c.self.inside.near c.self.inside.far c.args.self.now c.self.invariant c.self.view_is c.args.a c.after.result c.after-2.result c.after.ensures c.after-2.ensures)
