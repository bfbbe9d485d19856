use Rattle.std.proofs.Common.{ℕ}
use Rattle.jump_table.specs.Inner.Held.{held_by}
use Rattle.jump_table.proofs.Writes.{AreOverwrittenBelow}
use Rattle.jump_table.proofs.values.Registers.forget.Given as goal

-- the registers below r that the mask has are forgotten
abbrev pub invariant-loop-r : goal.invariant-loop-r
invariant-loop-r l = AreOverwrittenBelow (held_by l.fn.self.values) l.mask l.r (held_by l.self.values)
