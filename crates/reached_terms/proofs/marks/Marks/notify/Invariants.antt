use Rattle.reached_terms.proofs.Telling.{IsTelling}
use Rattle.reached_terms.proofs.marks.Marks.notify.Given as goal

abbrev pub invariant-loop-at : goal.invariant-loop-at
invariant-loop-at g l = IsTelling (g.C.Chains.map l.code) (g.C.Numbered.number l.code) l.n l.initial.self l.self l.at

abbrev pub decreases-loop-at : goal.decreases-loop-at
decreases-loop-at g l = l.at
