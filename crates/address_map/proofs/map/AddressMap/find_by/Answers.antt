use Rattle.address_map.proofs.NearAndFar.{found_near, some_far, none_parted}
use Rattle.address_map.proofs.map.AddressMap.find_by.Goals as goal

pub returns-in-Some-clause-some : goal.returns-in-Some-clause-some
returns-in-Some-clause-some g c = found_near c.self.inside.number c.self.inside.near c.self.inside.far c.args.self.now c.self.invariant c.self.view_is (g.L.Look.finds c.args.look.now) _ c.in-Some.ensures.some

pub returns-in-None-clause-some : goal.returns-in-None-clause-some
returns-in-None-clause-some g c =
    some_far c.self.inside.number c.self.inside.near c.self.inside.far c.args.self.now c.self.invariant c.self.view_is (g.L.Look.finds c.args.look.now) c.find_by-in-None.result c.find_by-in-None.ensures.some

pub returns-in-None-clause-none : goal.returns-in-None-clause-none
returns-in-None-clause-none g c =
    none_parted c.self.inside.number c.self.inside.near c.self.inside.far c.args.self.now c.self.invariant c.self.view_is (g.L.Look.finds c.args.look.now) c.find_by-in-None.result c.in-None.ensures.none c.find_by-in-None.ensures.none
