use Rattle.std.proofs.Common.{arith}
use Rattle.mask_flow.proofs.Sums.{sum_bounded, fit_of}
use Rattle.mask_flow.proofs.fixed_point.hurry.Goals as goal

pub loop-node-smaller : goal.loop-node-smaller
loop-node-smaller c = omega (arith, sum_bounded c.visit.new.masks (fit_of c.visit.new.masks c.type_inv.masks), c.in-Some.ensures.some, c.visit.ensures.ends, c.visit.auto.masks, c.loop-node.auto.masks)
