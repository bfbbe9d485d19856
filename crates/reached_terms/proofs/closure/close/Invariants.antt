use Rattle.std.proofs.Common.{◌-◌}
use Rattle.reached_terms.specs.Inner.Steps.{left_to_visit}
use Rattle.reached_terms.proofs.Closing.{AreClosing}
use Rattle.reached_terms.proofs.closure.close.Given as goal

abbrev pub invariant-loop-i : goal.invariant-loop-i
invariant-loop-i g l = AreClosing (g.C.Chains.map l.code) (g.C.Numbered.number l.code) l.initial.marks l.marks l.i

abbrev pub decreases-loop-i : goal.decreases-loop-i
decreases-loop-i g l = left_to_visit l.marks - l.i
