-- A sink in memory, as contracts see it.
use Rattle.std.specs.Prelude.{ℕ, List, ◌++◌}
use Rattle.cfg_io.specs.Fault.{one_more}

pub record MemSinkState : Type 0 where
  -- the bytes written so far
  pub written : List ℕ
  -- how many bytes it holds at most
  pub room : ℕ
  -- the most bytes that one write takes
  pub most : ℕ
  -- the numbers of the writes that fail
  pub failing : List ℕ
  -- how many writes there were, up to 2^64 - 1
  pub calls : ℕ
  -- how many writes failed, up to 2^64 - 1
  pub faults : ℕ

-- after a write that failed
abbrev pub after_failed : MemSinkState → MemSinkState
after_failed m = record m { calls = one_more m.calls; faults = one_more m.faults }

-- after a write that took these bytes
abbrev pub after_write : MemSinkState → List ℕ → MemSinkState
after_write m taken = record m { calls = one_more m.calls; written = m.written ++ taken }
