use Rattle.address_map.specs.inner.Entries.{pairs}
use Rattle.address_map.proofs.Among.{AreDone}
use Rattle.address_map.proofs.chunk.Chunk.find_by.Given as goal

-- nothing is found at the entries that were looked at
abbrev pub invariant-loop-entry : goal.invariant-loop-entry
invariant-loop-entry g l = AreDone (g.L.Look.finds l.look) (pairs l.entry-items) l.entry-index
