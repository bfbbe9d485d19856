use Rattle.std.proofs.Common.{take}
use Rattle.reached_terms.specs.Inner.Closing.{IsSeeded}
use Rattle.reached_terms.proofs.closure.closure_of.Given as goal

abbrev pub invariant-loop-seed : goal.invariant-loop-seed
invariant-loop-seed g l = IsSeeded (g.C.Chains.map l.code) (g.C.Numbered.number l.code) l.seeds (take l.seed-index l.seeds) l.marks
