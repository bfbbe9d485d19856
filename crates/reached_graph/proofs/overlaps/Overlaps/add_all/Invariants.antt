use Rattle.std.proofs.Common.{ℕ, List, ◌++◌, take}
use Rattle.reached_graph.specs.Inner.Overlaps.{AreOverlaps}
use Rattle.reached_graph.proofs.overlaps.Overlaps.add_all.Given as goal

abbrev pub invariant-loop-i : goal.invariant-loop-i
invariant-loop-i l = (xs ks : List ℕ) → AreOverlaps xs ks l.initial.self → AreOverlaps (xs ++ take l.i l.starts) (ks ++ take l.i l.lasts) l.self
