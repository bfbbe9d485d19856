use Rattle.address_map.proofs.AmongParts.{ArePassed}
use Rattle.address_map.proofs.region.Region.find_by.Given as goal

-- nothing is found in the chunks that were passed
abbrev pub invariant-loop-chunk : goal.invariant-loop-chunk
invariant-loop-chunk g l = ArePassed (g.L.Look.finds l.look) l.chunk-items l.chunk-index
