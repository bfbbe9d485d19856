use Rattle.std.proofs.Common.{◌≡◌, ◌*◌, ◌-◌}
use Rattle.jump_table.specs.Pair.{spill_at, spilled_before}
use Rattle.jump_table.proofs.Nearest.{nearest_from}
use Rattle.jump_table.proofs.pair.spilled_before.Given as goal

-- none stands nearer
abbrev pub invariant-loop-parcels : goal.invariant-loop-parcels
invariant-loop-parcels l =
    spilled_before l.image l.start l.q l.slot
    ≡ nearest_from (spill_at l.image l.start l.q l.slot) l.start l.q (2 * l.parcels) (2049 - l.parcels)
