use Rattle.std.proofs.Common.{take}
use Rattle.outline_funcs.specs.Inner.Marking.{AreTailsAt}
use Rattle.outline_funcs.proofs.tail_sharing.set_tails.Given as goal

-- the kinds at the places so far are set
abbrev pub invariant-loop-place : goal.invariant-loop-place
invariant-loop-place l = AreTailsAt (take l.place-index l.places) l.initial.edges l.edges
