use Rattle.std.proofs.Common.{Contains}
use Rattle.address_map.specs.Read.{IsRead}
use Rattle.address_map.proofs.Among.{IsFoundAhead}
use Rattle.address_map.proofs.Gathered.{reads_as, AreGathered}
use Rattle.address_map.proofs.scattered.Scattered.read_into.Given as goal

-- what is ahead is read in the chunks that are still to be read
abbrev pub invariant-loop-chunk : goal.invariant-loop-chunk
invariant-loop-chunk g l =
    AreGathered (Contains l.initial.items.items) (IsRead (g.G.Reading.item l.reading) l.self) (Contains l.items.items)
    (IsFoundAhead (reads_as (g.G.Reading.item l.reading)) l.chunk-iterator)
