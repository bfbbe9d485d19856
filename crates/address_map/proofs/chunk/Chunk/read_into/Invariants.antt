use Rattle.std.proofs.Common.{drop, Contains}
use Rattle.address_map.specs.Read.{IsRead}
use Rattle.address_map.specs.inner.Entries.{pairs}
use Rattle.address_map.proofs.Gathered.{AreGathered, IsReadOf}
use Rattle.address_map.proofs.chunk.Chunk.read_into.Given as goal

-- what is ahead is read of the entries that are still to be read
abbrev pub invariant-loop-entry : goal.invariant-loop-entry
invariant-loop-entry g l = AreGathered (Contains l.initial.items.items) (IsRead (g.G.Reading.item l.reading) l.self) (Contains l.items.items) (IsReadOf (g.G.Reading.item l.reading) (drop l.entry-index (pairs l.entry-items)))
