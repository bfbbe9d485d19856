-- The leaders of a program, as they are kept.
use Rattle.std.specs.Prelude.{◌↔◌, ℕ, Bool, List, All, Contains, IsSome}
use Rattle.std.specs.List.Sorted.{IsStrictlyIncreasing}
use Rattle.cfg_model.specs.Program.Instructions.{InstructionMap}
use Rattle.cfg_model.specs.Graph.Leader.{IsLeader}
use Rattle.cfg_model.specs.Program.Reach.{Reached}
use Rattle.numbered.specs.Numbering.{IsMarked}
use Rattle.reached_terms.specs.Sent.{IsSent}
use Rattle.reached_graph.specs.declared.leaders.Leaders.{Leaders}
use Rattle.reached_graph.specs.Inner.Blocks.{AreCutAt}

-- Blocks are known to start at these addresses: wherever control is sent, and at leaders alone.
pub record AreStarts (map : InstructionMap) (seeds : List ℕ) (IsGiven : ℕ → Type 0) : Type 0 where
  pub sent : (a : ℕ) → IsSent map seeds a → IsGiven a
  pub leads : (a : ℕ) → IsGiven a → IsLeader map seeds a

-- Exactly the leaders are marked.
abbrev pub MarkLeaders : InstructionMap → (ℕ → ℕ) → List ℕ → List Bool → Type 0
MarkLeaders map number seeds marks = (a : ℕ) → IsMarked map number marks a ↔ IsLeader map seeds a

-- The same of a program in which instructions stand wherever it comes to.
pub record AreLeaderMarks (map : InstructionMap) (number : ℕ → ℕ) (seeds : List ℕ)
    (marks : List Bool) : Type 0 where
  pub known : (a : ℕ) → Reached map seeds a → IsSome (map a)
  pub lead : MarkLeaders map number seeds marks

-- Blocks start exactly where they are cut: at these starts, with these last addresses.
pub record AreMarkedBlocks (map : InstructionMap) (IsCut : ℕ → Type 0) (starts lasts : List ℕ)
    : Type 0 where
  pub rise : IsStrictlyIncreasing starts
  pub exact : (a : ℕ) → Contains starts a ↔ IsCut a
  pub cut : AreCutAt map IsCut starts lasts

-- These are all leaders of the program, and the last addresses of their blocks.
pub record AreLeaderLists (map : InstructionMap) (seeds starts lasts : List ℕ) : Type 0 where
  pub rise : IsStrictlyIncreasing starts
  pub listed : (a : ℕ) → Contains starts a ↔ IsLeader map seeds a
  pub cut : AreCutAt map (IsLeader map seeds) starts lasts
  pub stand : All (λ k. IsSome (map k)) lasts

abbrev pub AreLeaders : InstructionMap → List ℕ → Leaders → Type 0
AreLeaders map seeds leaders = AreLeaderLists map seeds leaders.starts.items leaders.lasts.items
