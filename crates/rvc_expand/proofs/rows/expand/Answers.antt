-- The table's answer is that of the halfword's own quadrant.
use Rattle.std.proofs.Common.{arith}
use Rattle.rvc_expand.proofs.Quadrants.{expansion-quadrant_0, expansion-quadrant_1, expansion-quadrant_2, expansion-quadrant_3}
use Rattle.rvc_expand.proofs.rows.expand.Goals as goal

pub returns-in-0 : goal.returns-in-0
returns-in-0 c = cc (expansion-quadrant_0 c.from-half.result (omega arith))

pub returns-in-1 : goal.returns-in-1
returns-in-1 c = cc (expansion-quadrant_1 c.from-half.result (omega arith))

pub returns-in-2 : goal.returns-in-2
returns-in-2 c = cc (expansion-quadrant_2 c.from-half.result (omega arith))

pub returns-in_default : goal.returns-in_default
returns-in_default c = cc (expansion-quadrant_3 c.from-half.result (omega arith))
