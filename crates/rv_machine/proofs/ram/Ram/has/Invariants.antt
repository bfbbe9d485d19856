use Rattle.std.proofs.Common.{◌≡◌}
use Rattle.rv_machine.specs.Memory.{has_bytes}
use Rattle.rv_machine.proofs.ram.Ram.has.Given as goal

-- all bytes are there exactly where those that are left are
abbrev pub invariant-loop-left : goal.invariant-loop-left
invariant-loop-left g l = has_bytes l.left (g.Self.Ram.bytes l.self) l.at ≡ has_bytes l.count (g.Self.Ram.bytes l.self) l.a

abbrev pub decreases-loop-left : goal.decreases-loop-left
decreases-loop-left g l = l.left
