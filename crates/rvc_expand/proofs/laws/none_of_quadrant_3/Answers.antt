use Rattle.rvc_expand.proofs.Quadrants.{none_of_quadrant_3}
use Rattle.rvc_expand.proofs.laws.none_of_quadrant_3.Goals as goal

pub returns : goal.returns
returns c = none_of_quadrant_3
