-- The laws of a deque of a pool, at every moment between two steps on it.
use Rattle.std.specs.Prelude.{◌≡◌, ℕ, ◌+◌, ◌<◌, List, ◌++◌, sum_by}
use mathlib.Core.Option.{some}
use lib.ListN.{get_elem?}
use Rattle.core_state.specs.declared.answer.Name.{Name}
use Rattle.steal_pool.specs.declared.note.Note.{Note}
use Rattle.steal_pool.specs.Rule.{Kept, taken_weight}

-- What the owner's pass has put are the names that all passes have taken and those that the deque
-- holds, each as often. So a name is handed out at most once for each time that it was put.
abbrev pub NothingIsTakenTwice : Type 0
NothingIsTakenTwice = (items : List Name) (notes : List Note) → Kept items notes
    → (port : ℕ) (owner : Note) → get_elem? notes port ≡ some owner → 0 < owner.whole
    → (weight : Name → ℕ)
    → sum_by weight owner.put ≡ taken_weight weight notes + sum_by weight items

-- The names that have left the deque are those that were put first, in their order.
pub record AreFirst (items : List Name) (notes : List Note) (put : List Name) : Type 0 where
  pub left : List Name
  pub put_is : put ≡ left ++ items
  pub taken : (weight : Name → ℕ) → taken_weight weight notes ≡ sum_by weight left

abbrev pub FirstLeaveFirst : Type 0
FirstLeaveFirst = (items : List Name) (notes : List Note) → Kept items notes
    → (port : ℕ) (owner : Note) → get_elem? notes port ≡ some owner → 0 < owner.whole
    → AreFirst items notes owner.put
