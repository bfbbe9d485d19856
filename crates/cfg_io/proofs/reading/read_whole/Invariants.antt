use Rattle.std.proofs.Common.{◌≡◌, ◌+◌, ◌-◌, ◌≤◌, take, vec_len}
use Rattle.cfg_io.specs.Told.{Takes}
use Rattle.cfg_io.proofs.reading.read_whole.Given as goal

-- the first `filled` bytes of the buffer are those that were taken
abbrev pub invariant-loop-filled : goal.invariant-loop-filled
invariant-loop-filled g l = record {
  in_buffer : l.filled ≤ vec_len l.buffer;
  buffer_fits : vec_len l.buffer ≤ l.limit + 1;
  taken : Takes (g.I.Input.rest l.fn.input) (take l.filled l.buffer.items) (g.I.Input.rest l.input);
  never_falls : g.I.Input.faults l.fn.input ≤ g.I.Input.faults l.input;
  stays_opened : g.I.Input.opened l.input ≡ g.I.Input.opened l.fn.input;
  tells_as_before : g.I.Input.tells_path l.input ≡ g.I.Input.tells_path l.fn.input;
}

abbrev pub decreases-loop-filled : goal.decreases-loop-filled
decreases-loop-filled g l = l.limit + 1 - l.filled
