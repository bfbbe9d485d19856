-- What an arrival answers.
use Rattle.std.specs.Prelude.{ℕ, ◌==◌, if◌then◌else◌, min, max, Option, Some, None}
use Rattle.core_state.specs.declared.answer.Arrival.{Arrival}
use Rattle.core_state.specs.declared.answer.Arrival.TheVariants.{First, Same, Split}

-- A split where p was near, s arrived and m is near now: those of p and s that are not m have to
-- leave, the lesser one first.
abbrev pub split_into : ℕ → ℕ → ℕ → Arrival
split_into m p s =
    if p == m then Split m s None else if s == m then Split m p None
    else Split m (min p s) (Some (max p s))

-- The answer where s arrived, by the near start before, if there was one, and m, the near start
-- after.
abbrev pub arrival_of : ℕ → Option ℕ → ℕ → Arrival
arrival_of s None m = First
arrival_of s (Some p) m = if p == s then Same else split_into m p s
