use Rattle.std.proofs.Common.{◌≡◌, ◌≤◌}
use Rattle.rv_machine.proofs.FileParts.{first_loaded, size_of}
use Rattle.rv_machine.proofs.regions.is_too_much.Given as goal

-- the sizes of the sections so far
abbrev pub invariant-loop-i : goal.invariant-loop-i
invariant-loop-i l = record {
  small : l.total ≤ 268435456;
  known : l.total ≡ size_of (first_loaded l.image l.i);
}
