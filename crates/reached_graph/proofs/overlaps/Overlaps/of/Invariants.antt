use Rattle.std.proofs.Common.{take}
use Rattle.reached_graph.specs.Inner.Overlaps.{AreOverlaps, lasts_of, starts_of}
use Rattle.reached_graph.proofs.overlaps.Overlaps.of.Given as goal

abbrev pub invariant-loop-blocks : goal.invariant-loop-blocks
invariant-loop-blocks l = AreOverlaps (starts_of (take l.blocks-index l.lists)) (lasts_of (take l.blocks-index l.lists)) l.overlaps
