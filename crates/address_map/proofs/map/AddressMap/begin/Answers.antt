use Rattle.address_map.proofs.NearAndFar.{nothing_apart}
use Rattle.address_map.proofs.map.AddressMap.begin.Goals as goal

pub invariant_of-self : goal.invariant_of-self
invariant_of-self g c = nothing_apart _ _ _ (c.is_empty.ensures c.if-is_empty.true) (c.is_empty-then-is_empty.ensures c.if-is_empty-2.true)
