-- What is kept of a terminator's waiters, read as pairs in place and a map of the others.
use Rattle.std.specs.Prelude.{ℕ, Bool, true, List, [], ◌∷◌, if◌then◌else◌}
use Rattle.std.specs.Ordering.{eq_by_cmp}
use Rattle.std.specs.FinMap as maps
use Rattle.builder_model.specs.declared.state.Waiter.{Waiter}
use Rattle.builder_model.specs.Waiter.{waiter_cmp}
use Rattle.core_state.specs.declared.waiters.Note.{Note}
use Rattle.core_state.specs.declared.waiters.Kept.{Kept}
use Rattle.core_state.specs.declared.waiters.Kept.TheVariants.{Nobody, One, Two, Several}
use Rattle.core_state.specs.inner.Waiting.{WaiterMap}

-- The waiter at a terminator with what is noted of it, and whether it was told.
abbrev pub pair_of : Note → ℕ → Waiter × Bool
pair_of note terminator = (record { terminator = terminator; kind = note.kind }, note.told)

-- The waiters in place.
abbrev pub in_place : Kept → List (Waiter × Bool)
in_place Nobody = []
in_place (One note terminator) = pair_of note terminator ∷ []
in_place (Two first_note second_note first second) =
    pair_of first_note first ∷ pair_of second_note second ∷ []
in_place (Several several) = []

-- The waiters elsewhere.
abbrev pub elsewhere : Kept → WaiterMap
elsewhere Nobody = maps.empty
elsewhere (One note terminator) = maps.empty
elsewhere (Two first_note second_note first second) = maps.empty
elsewhere (Several several) = several.value

-- The pair, told if it is w's.
abbrev pub told_if : Waiter → Waiter × Bool → Waiter × Bool
told_if w pair = if eq_by_cmp waiter_cmp w pair.0 then (pair.0, true) else pair
