use Rattle.std.proofs.Common.{take}
use Rattle.reached_terms.proofs.Leading.{AreFollowed}
use Rattle.reached_terms.proofs.marks.Marks.table.Given as goal

abbrev pub invariant-loop-b : goal.invariant-loop-b
invariant-loop-b g l = AreFollowed (g.C.Chains.map l.code) (g.C.Numbered.number l.code) l.n l.initial.self l.self (take l.b-index l.b-items)
