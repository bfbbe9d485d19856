use Rattle.core_state.proofs.PlacesLooked.{ArePassed}
use Rattle.core_state.proofs.left.left_of.Given as goal

-- nothing is left at the places that were passed
abbrev pub invariant-loop-place : goal.invariant-loop-place
invariant-loop-place l = ArePassed l.seeds l.state.maps l.place
