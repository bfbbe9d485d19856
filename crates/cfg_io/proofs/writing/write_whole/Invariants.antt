use Rattle.std.proofs.Common.{length, ◌-◌, ◌≤◌, take}
use Rattle.cfg_io.specs.Told.{Appends}
use Rattle.cfg_io.proofs.writing.write_whole.Given as goal

-- the first `at` bytes are written
abbrev pub invariant-loop-at : goal.invariant-loop-at
invariant-loop-at g l = record {
  in_bytes : l.at ≤ length l.bytes;
  never_falls : g.O.Sink.faults l.fn.sink ≤ g.O.Sink.faults l.sink;
  written : Appends (g.O.Sink.written l.fn.sink) (take l.at l.bytes) (g.O.Sink.written l.sink);
}

abbrev pub decreases-loop-at : goal.decreases-loop-at
decreases-loop-at g l = length l.bytes - l.at
