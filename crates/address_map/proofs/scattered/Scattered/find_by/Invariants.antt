use Rattle.address_map.specs.Found.{IsFoundAmong}
use Rattle.address_map.proofs.Among.{IsFoundAhead}
use Rattle.address_map.proofs.scattered.Scattered.find_by.Given as goal

-- what is found is found in the chunks that are still to be looked over
abbrev pub invariant-loop-chunk : goal.invariant-loop-chunk
invariant-loop-chunk g l = (thing : g.row.A.Denot) → IsFoundAmong (g.L.Look.finds l.look) l.self thing → IsFoundAhead (g.L.Look.finds l.look) l.chunk-iterator thing
