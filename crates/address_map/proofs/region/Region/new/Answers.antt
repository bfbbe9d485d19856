use Rattle.address_map.specs.inner.Grouped.{place_of}
use Rattle.address_map.proofs.PartsJoined.{no_parts}
use Rattle.address_map.proofs.region.Region.new.Goals as goal

pub invariant_of-result : goal.invariant_of-result
invariant_of-result g c = rw c.new.ensures.items (no_parts _ place_of)
