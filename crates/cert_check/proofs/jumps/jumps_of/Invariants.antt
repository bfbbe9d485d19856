use Rattle.cert_check.specs.Inner.Jumps.{AreJumps}
use Rattle.cert_check.proofs.jumps.jumps_of.Given as goal

abbrev pub invariant-loop-i : goal.invariant-loop-i
invariant-loop-i l = AreJumps l.runs l.jumps.items l.i
