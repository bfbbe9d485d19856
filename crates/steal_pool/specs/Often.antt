-- Lists with the same names.
use Rattle.std.specs.Prelude.{◌≡◌, ℕ, List, sum_by}
use Rattle.core_state.specs.declared.answer.Name.{Name}

-- Each name stands in both lists as often: however names are weighed, the lists weigh the same.
abbrev pub EachAsOften : List Name → List Name → Type 0
EachAsOften xs ys = (weight : Name → ℕ) → sum_by weight xs ≡ sum_by weight ys
