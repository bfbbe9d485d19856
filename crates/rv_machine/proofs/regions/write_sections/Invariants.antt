use Rattle.rv_machine.proofs.Layered.{AreWritten}
use Rattle.rv_machine.proofs.regions.write_sections.Given as goal

-- the sections that are not left are written
abbrev pub invariant-loop-left : goal.invariant-loop-left
invariant-loop-left l = AreWritten l.image l.initial.parts l.parts l.left

abbrev pub decreases-loop-left : goal.decreases-loop-left
decreases-loop-left l = l.left
