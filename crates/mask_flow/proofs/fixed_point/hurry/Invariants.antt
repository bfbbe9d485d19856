use Rattle.std.proofs.Common.{◌≡◌, ◌+◌, ◌-◌, ◌*◌, ◌^◌, length, sum, vec_len}
use Rattle.mask_flow.specs.Inner.{AreLinked, KeepsSpread}
use Rattle.mask_flow.proofs.fixed_point.hurry.Given as goal

abbrev pub invariant-loop-node : goal.invariant-loop-node
invariant-loop-node l =
    AreLinked (length l.initial.masks) (length l.ways) l.spreading.entering
    × (length l.spreading.todo.waits.items ≡ length l.initial.masks)
    × KeepsSpread l.stops l.ways l.initial.masks l.masks

abbrev pub decreases-loop-node : goal.decreases-loop-node
decreases-loop-node l = vec_len l.spreading.todo.nodes + (length l.initial.masks * 2 ^ 32 - sum l.masks)
