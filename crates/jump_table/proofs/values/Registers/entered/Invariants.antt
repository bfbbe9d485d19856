use Rattle.std.proofs.Common.{◌≡◌}
use Rattle.jump_table.specs.Inner.Held.{held_by}
use Rattle.jump_table.proofs.Writes.{entered_below}
use Rattle.jump_table.proofs.values.Registers.entered.Given as goal

-- the registers below r hold what they were entered with
abbrev pub invariant-loop-r : goal.invariant-loop-r
invariant-loop-r l = held_by l.registers.values ≡ entered_below l.r
