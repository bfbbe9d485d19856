-- The parts of a map, and the map that they are together.
use Rattle.std.specs.Prelude.{ℕ, List, [], ◌∷◌, ◌++◌}
use Rattle.std.specs.Ordering.{nat_cmp}
use Rattle.std.specs.FinMap as maps

-- The entries of all parts, one part after the other.
abbrev pub all_entries : {X : Type 0} → List (maps.FinMap nat_cmp X) → List (ℕ × X)
all_entries [] = []
all_entries (m ∷ ms) = maps.entries m ++ all_entries ms

-- The parts as one map.
abbrev pub joined : {X : Type 0} → List (maps.FinMap nat_cmp X) → maps.FinMap nat_cmp X
joined parts = maps.from_entries (all_entries parts)
