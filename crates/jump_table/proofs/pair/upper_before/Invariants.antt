use Rattle.std.proofs.Common.{◌≡◌, ◌*◌, ◌-◌}
use Rattle.jump_table.specs.Pair.{upper_at, upper_before}
use Rattle.jump_table.proofs.Nearest.{nearest_from}
use Rattle.jump_table.proofs.pair.upper_before.Given as goal

-- none stands nearer
abbrev pub invariant-loop-parcels : goal.invariant-loop-parcels
invariant-loop-parcels l =
    upper_before l.image l.start l.a l.register
    ≡ nearest_from (upper_at l.image l.start l.a l.register) l.start l.a (2 * l.parcels) (33 - l.parcels)
