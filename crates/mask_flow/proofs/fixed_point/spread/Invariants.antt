use Rattle.std.proofs.Common.{◌-◌, ◌*◌, ◌^◌, length, sum}
use Rattle.mask_flow.specs.Inner.{KeepsSpread}
use Rattle.mask_flow.proofs.fixed_point.spread.Given as goal

abbrev pub invariant-loop : goal.invariant-loop
invariant-loop l = KeepsSpread l.stops l.ways l.fn.masks l.masks

abbrev pub decreases-loop : goal.decreases-loop
decreases-loop l = length l.initial.masks * 2 ^ 32 - sum l.masks
