use Rattle.outline_funcs.proofs.Marks.{AreMarkedBefore}
use Rattle.outline_funcs.proofs.tails.mark_all.Given as goal

abbrev pub invariant-loop-i : goal.invariant-loop-i
invariant-loop-i l = AreMarkedBefore l.functions l.i l.initial.edges l.edges
