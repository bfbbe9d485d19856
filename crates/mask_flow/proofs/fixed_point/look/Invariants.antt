use Rattle.mask_flow.proofs.Passing.{IsLookedAt}
use Rattle.mask_flow.proofs.fixed_point.look.Given as goal

abbrev pub invariant-loop-way : goal.invariant-loop-way
invariant-loop-way l = IsLookedAt l.stops l.ways l.way-index l.initial.masks l.masks l.more
