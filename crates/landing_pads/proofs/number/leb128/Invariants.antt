use Rattle.std.proofs.Common.{◌≤◌}
use Rattle.landing_pads.specs.Inner.{last_as}
use Rattle.landing_pads.proofs.Lebs.{ReadFrom}
use Rattle.landing_pads.proofs.number.leb128.Given as goal

abbrev pub invariant-loop-i : goal.invariant-loop-i
invariant-loop-i l = (l.i ≤ l.last) × ReadFrom (last_as l.is_signed) l.bytes l.last l.i l.value

abbrev pub decreases-loop-i : goal.decreases-loop-i
decreases-loop-i l = l.i
