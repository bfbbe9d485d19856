use Rattle.std.proofs.Common.{◌≤◌, ◌++◌}
use Rattle.run_ends.specs.Told.{Moves}
use Rattle.cfg_run.proofs.text.put_full_rounds.Given as goal

-- what was written, what is joined and the lines that are left are all of the text
abbrev pub invariant-loop : goal.invariant-loop
invariant-loop g l = record {
  never_falls : g.O.Sink.faults l.fn.out ≤ g.O.Sink.faults l.out;
  written : Moves (g.O.Sink.written l.fn.out) (g.O.Sink.written l.out) (l.fn.joined ++ l.fn.lines) (l.joined ++ l.lines);
}
