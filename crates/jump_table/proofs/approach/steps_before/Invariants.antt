use Rattle.jump_table.specs.Inner.Steps.{AreStepsBelow}
use Rattle.jump_table.proofs.approach.steps_before.Given as goal

-- the steps nearer to the jump than this one are known
abbrev pub invariant-loop-parcels : goal.invariant-loop-parcels
invariant-loop-parcels l = AreStepsBelow l.image l.start l.jump l.parcels l.steps
