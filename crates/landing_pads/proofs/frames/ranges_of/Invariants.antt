use Rattle.std.proofs.Common.{◌≡◌}
use Rattle.landing_pads.proofs.AllSections.{ranges_to}
use Rattle.landing_pads.proofs.frames.ranges_of.Given as goal

abbrev pub invariant-loop-i : goal.invariant-loop-i
invariant-loop-i l = l.ranges.items ≡ ranges_to l.image l.i
