-- How far the closure of a program is.
use Rattle.std.specs.Prelude.{◌≡◌, ℕ, ◌<◌, ◌≤◌, List, length, get_or, Contains}
use Rattle.cfg_model.specs.Program.Instructions.{InstructionMap}
use Rattle.cfg_model.specs.Program.Chain.{IsTerminatorOf}
use Rattle.reached_terms.specs.declared.marks.Marks.{Marks}
use Rattle.reached_terms.specs.Inner.Marks.{IsOn, AreKept, AreRight, AreTold, IsVisited}

-- The terminator of s is marked, and control is sent to s.
pub record IsFrom (map : InstructionMap) (number : ℕ → ℕ) (m : Marks) (s : ℕ) : Type 0 where
  pub end : ℕ
  pub ends : IsTerminatorOf map s end
  pub reached : IsOn m.reached.items (number end)
  pub sent : IsOn m.sent.items (number s)

-- Those of the seeds that are seen are taken, and nobody is left to be told.
pub record IsSeeded (map : InstructionMap) (number : ℕ → ℕ) (seeds seen : List ℕ) (m : Marks)
    : Type 0 where
  pub kept : AreKept map number m
  pub right : AreRight map number seeds m
  pub told : (n : ℕ) → AreTold map number m n 0
  pub none : length m.untold.items ≡ 0
  pub from : (s : ℕ) → Contains seen s → IsFrom map number m s

-- All seeds are taken, and so many of the terminators that were found are visited.
pub record IsClosing (map : InstructionMap) (number : ℕ → ℕ) (seeds : List ℕ) (m : Marks) (i : ℕ)
    : Type 0 where
  pub seeded : IsSeeded map number seeds seeds m
  pub visited : (j : ℕ) → j < i → j < length m.order.items
      → IsVisited map number m (get_or m.order.items j 0)
  pub within : i ≤ length m.order.items

-- All of them are.
abbrev pub IsClosure : InstructionMap → (ℕ → ℕ) → List ℕ → Marks → Type 0
IsClosure map number seeds m = IsClosing map number seeds m (length m.order.items)
