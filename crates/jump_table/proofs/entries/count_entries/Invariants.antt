use Rattle.std.proofs.Common.{◌≡◌, ◌+◌, ◌-◌}
use Rattle.jump_table.specs.Table.{targets_from, count_of}
use Rattle.jump_table.proofs.entries.count_entries.Given as goal

-- each entry so far has a target
abbrev pub invariant-loop-i : goal.invariant-loop-i
invariant-loop-i l =
    count_of (targets_from l.image l.base l.width l.add 0 l.bound) ≡ l.i + count_of (targets_from l.image l.base l.width l.add l.i (l.bound - l.i))
