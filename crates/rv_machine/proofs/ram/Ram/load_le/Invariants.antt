use Rattle.std.proofs.Common.{◌≡◌, ◌+◌, ◌-◌, ◌*◌, ◌%◌, ◌^◌, ◌<◌, ◌≤◌, Some}
use Rattle.rv_machine.specs.Memory.{loaded}
use Rattle.rv_machine.proofs.ram.Ram.load_le.Given as goal

-- the bytes from place `left` on are read
abbrev pub invariant-loop-left : goal.invariant-loop-left
invariant-loop-left g l = record {
  within : l.left ≤ l.count;
  known : loaded (l.count - l.left) (g.Self.Ram.bytes l.self) ((l.a + l.left) % 2 ^ 64) ≡ Some l.value;
  fits : l.value < 2 ^ (8 * (l.count - l.left));
}

abbrev pub decreases-loop-left : goal.decreases-loop-left
decreases-loop-left g l = l.left
