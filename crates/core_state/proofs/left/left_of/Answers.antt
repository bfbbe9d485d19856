use Rattle.std.proofs.Common.{arith}
use Rattle.core_state.proofs.PlacesLooked.{passed_one, passed_all}
use Rattle.core_state.proofs.left.left_of.Goals as goal

pub loop-place-preserved : goal.loop-place-preserved
loop-place-preserved c = passed_one _ _ _ c.loop-place.invariant c.in_default.ensures.none

pub returns-clause-none : goal.returns-clause-none
returns-clause-none c = passed_all _ _ c.loop-place.place (omega (arith, c.loop-place-test.false)) c.loop-place.invariant
