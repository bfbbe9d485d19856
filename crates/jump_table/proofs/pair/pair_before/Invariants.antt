use Rattle.std.proofs.Common.{◌≡◌, ◌*◌, ◌-◌}
use Rattle.jump_table.specs.Pair.{pair_at, pair_before}
use Rattle.jump_table.proofs.Nearest.{nearest_from}
use Rattle.jump_table.proofs.pair.pair_before.Given as goal

-- none stands nearer
abbrev pub invariant-loop-parcels : goal.invariant-loop-parcels
invariant-loop-parcels l =
    pair_before l.image l.start l.q l.register
    ≡ nearest_from (pair_at l.image l.start l.register) l.start l.q (2 * l.parcels) (2049 - l.parcels)
