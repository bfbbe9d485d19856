use Rattle.std.proofs.Common.{◌-◌}
use Rattle.live_regs.proofs.Runs.{IsToldTo}
use Rattle.live_regs.proofs.effects.effects_between.Given as goal

abbrev pub invariant-loop-a : goal.invariant-loop-a
invariant-loop-a l = IsToldTo l.image l.end l.start l.a l.effects

abbrev pub decreases-loop-a : goal.decreases-loop-a
decreases-loop-a l = l.end - l.a
