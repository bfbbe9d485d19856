use Rattle.address_map.proofs.Gathered.{read_both}
use Rattle.address_map.proofs.map.AddressMap.read_by.Goals as goal

pub returns : goal.returns
returns g c =
    read_both c.self.inside.number c.self.inside.near c.self.inside.far c.args.self.now c.self.invariant c.self.view_is (g.G.Reading.item c.args.reading.now)
    _ _ _ c.new-items.ensures.items c.in_ok-read_into.ensures c.in_ok-read_into-2.ensures
