use Rattle.std.proofs.Common.{◌≡◌, ◌≤◌, ◌-◌, take}
use Rattle.std.specs.List.{flat_map}
use Rattle.graph_report.specs.Name.{name_byte}
use Rattle.graph_report.proofs.name.plain_run.Given as goal

-- the bytes so far stand for themselves
abbrev pub invariant-loop-run : goal.invariant-loop-run
invariant-loop-run l = record {
  within : l.run ≤ l.end;
  plain : flat_map name_byte (take l.run l.name) ≡ take l.run l.name;
}

abbrev pub decreases-loop-run : goal.decreases-loop-run
decreases-loop-run l = l.end - l.run
