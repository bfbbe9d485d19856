use Rattle.std.proofs.Common.{◌+◌, ◌≤◌, ◌-◌, length, drop}
use Rattle.std.specs.List.{flat_map}
use Rattle.graph_report.proofs.Filling.{Moves}
use Rattle.graph_report.proofs.lined.push_lines.Given as goal

abbrev pub invariant-loop-at : goal.invariant-loop-at
invariant-loop-at g l = record {
  within : l.at ≤ length l.items;
  moves : Moves l.fn.page (flat_map g.T.Lined.line l.items) l.page (flat_map g.T.Lined.line (drop l.at l.items));
  grows : length l.fn.page + l.at ≤ length l.page;
}

abbrev pub decreases-loop-at : goal.decreases-loop-at
decreases-loop-at g l = length l.items - l.at
