use Rattle.std.proofs.Common.{◌+◌, ◌*◌}
use Rattle.parallel.proofs.side_by_side.+fn-map_indices-join+arg3+map_indices.Given as goal

-- the numbers that are left, each of which takes a call and a closure
abbrev pub decreases-map_indices : goal.decreases-map_indices
decreases-map_indices g l = 2 * l.count

abbrev pub decreases-join+arg3 : goal.decreases-join+arg3
decreases-join+arg3 g l = 2 * l.last + 1
