use Rattle.outline_funcs.specs.Inner.Marking.{ListsTails}
use Rattle.outline_funcs.proofs.tail_sharing.tails_in.Given as goal

-- the tail calls so far are listed
abbrev pub invariant-loop-i : goal.invariant-loop-i
invariant-loop-i l = ListsTails l.functions l.edges l.start l.i l.places.items
