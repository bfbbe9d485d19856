use Rattle.std.proofs.Common.{◌≡◌}
use Rattle.rv_machine.specs.Memory.{stored}
use Rattle.rv_machine.proofs.ram.Ram.store_le.Given as goal

-- what is left to be written makes it the whole
abbrev pub invariant-loop-left : goal.invariant-loop-left
invariant-loop-left g l = stored l.left (g.Self.Ram.bytes l.self) l.at l.rest ≡ stored l.count (g.Self.Ram.bytes l.initial.self) l.a l.value

abbrev pub decreases-loop-left : goal.decreases-loop-left
decreases-loop-left g l = l.left
