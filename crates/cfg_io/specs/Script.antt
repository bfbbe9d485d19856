-- Which calls of an input or a sink in memory fail.
use Rattle.std.specs.Prelude.{ℕ, ◌+◌, List, Contains}

-- after this many calls, the number of the next one, counted from 1, is in the list
abbrev pub FailsNext : List ℕ → ℕ → Type 0
FailsNext failing calls = Contains failing (calls + 1)
