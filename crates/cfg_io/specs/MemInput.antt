-- An input in memory, as contracts see it.
use Rattle.std.specs.Prelude.{ℕ, List, Bool, true, drop, Some, if◌then◌else◌}
use Rattle.cfg_io.specs.Opened.{Opened, Nothing, Something}
use Rattle.cfg_io.specs.Fault.{one_more}

pub record MemInputState : Type 0 where
  -- the one path that opens it
  pub name : List ℕ
  -- the bytes still to be read
  pub rest : List ℕ
  -- the most bytes that one read gives
  pub most : ℕ
  -- the numbers of the calls that fail
  pub failing : List ℕ
  -- how many calls of open and read there were, up to 2^64 - 1
  pub calls : ℕ
  pub is_open : Bool
  -- how many calls failed, up to 2^64 - 1
  pub faults : ℕ

-- nothing, or the name
abbrev pub opened_of : MemInputState → Opened
opened_of m = if m.is_open then Something (Some m.name) else Nothing

-- after a call that failed
abbrev pub after_failed : MemInputState → MemInputState
after_failed m = record m { calls = one_more m.calls; faults = one_more m.faults }

-- after an open that did not fail
abbrev pub after_open : MemInputState → MemInputState
after_open m = record m { calls = one_more m.calls; is_open = true }

-- after a read that gave n bytes
abbrev pub after_read : MemInputState → ℕ → MemInputState
after_read m n = record m { calls = one_more m.calls; rest = drop n m.rest }
