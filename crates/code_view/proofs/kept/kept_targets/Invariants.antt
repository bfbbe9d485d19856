use Rattle.std.proofs.Common.{◌≡◌, take}
use Rattle.jump_table.specs.Table.{table_targets}
use Rattle.code_view.proofs.kept.kept_targets.Given as goal

abbrev pub invariant-loop-i : goal.invariant-loop-i
invariant-loop-i l = l.targets.items ≡ take l.i (table_targets l.image l.table)
