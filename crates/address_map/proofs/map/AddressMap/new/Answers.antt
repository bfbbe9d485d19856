use Rattle.address_map.proofs.NearAndFar.{nothing_apart, nothing_joined}
use Rattle.address_map.proofs.map.AddressMap.new.Goals as goal

pub invariant_of-result : goal.invariant_of-result
invariant_of-result g c = nothing_apart _ _ _ c.new.ensures c.new-2.ensures

pub returns : goal.returns
returns g c = nothing_joined _ _ c.new.ensures c.new-2.ensures
