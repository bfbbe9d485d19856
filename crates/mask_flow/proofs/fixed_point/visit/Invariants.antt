use Rattle.std.proofs.Common.{◌≡◌, ◌≤◌, length, vec_len}
use Rattle.mask_flow.proofs.Passing.{IsVisited}
use Rattle.mask_flow.proofs.fixed_point.visit.Given as goal

abbrev pub invariant-loop-number : goal.invariant-loop-number
invariant-loop-number l = (l.number ≤ length l.ways) × (length l.todo.waits.items ≡ length l.initial.masks) × IsVisited l.stops l.ways l.initial.masks l.masks (vec_len l.initial.todo.nodes) (vec_len l.todo.nodes)

abbrev pub decreases-loop-number : goal.decreases-loop-number
decreases-loop-number l = l.number
