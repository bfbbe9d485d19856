use Rattle.std.proofs.Common.{◌≡◌, ◌*◌, ◌-◌}
use Rattle.jump_table.specs.Pair.{pair_at, pair_near}
use Rattle.jump_table.proofs.Nearest.{nearest_from}
use Rattle.jump_table.proofs.pair.pair_near.Given as goal

-- none stands nearer
abbrev pub invariant-loop-parcels : goal.invariant-loop-parcels
invariant-loop-parcels l =
    pair_near l.image l.start l.a l.register
    ≡ nearest_from (pair_at l.image l.start l.register) l.start l.a (2 * l.parcels) (33 - l.parcels)
