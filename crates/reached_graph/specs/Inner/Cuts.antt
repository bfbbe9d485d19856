-- Blocks that are cut at the starts of blocks, by ranges of numbers.
use Rattle.std.specs.Prelude.{◌≡◌, ◌↔◌, ◌⊎◌, ◌+◌, ◌<◌, ◌≤◌, ℕ, Bool, List, length, get_or}
use Rattle.std.specs.Prelude.{Contains, Option, Some}
use Rattle.std.specs.Option.{MatchOption}
use Rattle.std.specs.List.Sorted.{IsStrictlyIncreasing}
use Rattle.cfg_model.specs.Graph.Block.{IsLastOf}
use Rattle.cfg_model.specs.Program.Instructions.{InstructionMap}
use Rattle.numbered.specs.Numbering.{IsMarked}
use Rattle.reached_graph.specs.Inner.Blocks.{AreCutAt}

-- The blocks from these starts to these last addresses are those that start at the cuts whose numbers
-- are from and more, but below until. They are cut at all cuts.
pub record AreCutIn (map : InstructionMap) (number : ℕ → ℕ) (IsCut : ℕ → Type 0) (from until : ℕ)
    (starts lasts : List ℕ) : Type 0 where
  pub rise : IsStrictlyIncreasing starts
  pub exact : (a : ℕ) → Contains starts a ↔ IsCut a × (from ≤ number a) × (number a < until)
  pub cut : AreCutAt map IsCut starts lasts

-- The first cut above s; none if there is none.
abbrev pub IsNext : (ℕ → Type 0) → ℕ → Option ℕ → Type 0
IsNext IsCut s next =
    MatchOption next ((x : ℕ) → s < x → ¬ IsCut x)
    (λ t. IsCut t × ((x : ℕ) → s < x → IsCut x → t ≤ x))

-- The start after the one at place i, where behind is the one after them all.
pub record IsNextStart (starts : List ℕ) (behind : Option ℕ) (i : ℕ) (next : Option ℕ)
    : Type 0 where
  pub inside : i + 1 < length starts → next ≡ Some (get_or starts (i + 1) 0)
  pub last : i + 1 ≡ length starts → next ≡ behind

-- After each of these starts comes the next cut.
pub record AreFollowed (IsCut : ℕ → Type 0) (starts : List ℕ) (behind : Option ℕ) : Type 0 where
  pub each : (i : ℕ) (next : Option ℕ) → i < length starts → IsNextStart starts behind i next
      → IsNext IsCut (get_or starts i 0) next

-- k is the last address of the block of s, if blocks are cut at some of these addresses.
pub record IsLastAtSome (map : InstructionMap) (number : ℕ → ℕ) (marks : List Bool) (s k : ℕ)
    : Type 0 where
  pub given : List Bool
  pub last : IsLastOf map (IsMarked map number given) s k
  pub more : (a : ℕ) → IsMarked map number given a → IsMarked map number marks a

-- The same of the blocks from these starts.
pub record AreLastAtSome (map : InstructionMap) (number : ℕ → ℕ) (marks : List Bool)
    (starts lasts : List ℕ) : Type 0 where
  pub as_many : length lasts ≡ length starts
  pub each : (i d : ℕ) → i < length starts
      → IsLastAtSome map number marks (get_or starts i d) (get_or lasts i d)

-- Marked are those of the given marks, and the joins.
pub record AreMoreMarked (map : InstructionMap) (number : ℕ → ℕ) (given : List Bool)
    (joins : List ℕ) (marks : List Bool) : Type 0 where
  pub rise : IsStrictlyIncreasing joins
  pub new : (a : ℕ) → Contains joins a
      → IsMarked map number marks a × (¬ IsMarked map number given a)
  pub kept : (a : ℕ) → IsMarked map number given a → IsMarked map number marks a
  pub only : (a : ℕ) → IsMarked map number marks a
      → IsMarked map number given a ⊎ Contains joins a

-- These blocks are cut at all marks but the joins.
pub record AreCutInSome (map : InstructionMap) (number : ℕ → ℕ) (marks : List Bool)
    (joins : List ℕ) (from until : ℕ) (starts lasts : List ℕ) : Type 0 where
  pub given : List Bool
  pub made : AreCutIn map number (IsMarked map number given) from until starts lasts
  pub joined : AreMoreMarked map number given joins marks
