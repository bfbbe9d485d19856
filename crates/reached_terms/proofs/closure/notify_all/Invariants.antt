use Rattle.reached_terms.specs.Inner.Steps.{left_to_tell}
use Rattle.reached_terms.proofs.Telling.{AreTelling}
use Rattle.reached_terms.proofs.closure.notify_all.Given as goal

abbrev pub invariant-loop-n : goal.invariant-loop-n
invariant-loop-n g l = AreTelling (g.C.Chains.map l.code) (g.C.Numbered.number l.code) l.initial.marks l.marks

abbrev pub decreases-loop-n : goal.decreases-loop-n
decreases-loop-n g l = left_to_tell l.marks
