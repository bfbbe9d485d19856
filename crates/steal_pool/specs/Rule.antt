-- The rule of a deque: what its passes have put and taken, and what it holds.
use Rattle.std.specs.Prelude.{◌≡◌, ℕ, ◌<◌, List, [], ◌++◌, sum_by}
use mathlib.Core.Option.{some}
use lib.ListN.{get_elem?}
use Rattle.core_state.specs.declared.answer.Name.{Name}
use Rattle.steal_pool.specs.declared.note.Note.{Note}
use Rattle.steal_pool.specs.Often.{EachAsOften}

abbrev pub note : ℕ → ℕ → List Name → List Name → Note
note parts whole put taken = record { parts = parts; whole = whole; put = put; taken = taken }

-- The parts of all passes together.
abbrev pub parts_of : List Note → ℕ
parts_of notes = sum_by (λ (v : Note). v.parts) notes

-- What the names weigh that all passes have taken.
abbrev pub taken_weight : (Name → ℕ) → List Note → ℕ
taken_weight weight notes = sum_by (λ (v : Note). sum_by weight v.taken) notes

-- A pass without a part has taken nothing.
-- The owner's pass knows all parts, and what was put: what has left, and then what the deque holds.
abbrev pub Fits : ℕ → ℕ → List Name → List Name → ℕ → Note → Type 0
Fits parts owner left items port v =
    (v.parts ≡ 0 → v.taken ≡ [])
    × (0 < v.whole → (port ≡ owner) × (v.whole ≡ parts) × (v.put ≡ left ++ items))

-- The names that left the deque are those taken, each as often, and each pass fits.
abbrev pub Kept : List Name → List Note → Type 0
Kept items notes =
    (owner : ℕ) × (left : List Name)
    × ((weight : Name → ℕ) → taken_weight weight notes ≡ sum_by weight left)
    × ((port : ℕ) (v : Note) → get_elem? notes port ≡ some v
    → Fits (parts_of notes) owner left items port v)

-- The owner's pass has all parts, so that no other pass has taken anything.
abbrev pub HasAll : Note → Type 0
HasAll v = (0 < v.whole) × (v.parts ≡ v.whole)

-- The names xs were put next after those that were taken.
abbrev pub AreNext : Note → List Name → Type 0
AreNext v xs = (left : List Name) × (rest : List Name) × (v.put ≡ left ++ (xs ++ rest))
    × EachAsOften left v.taken
