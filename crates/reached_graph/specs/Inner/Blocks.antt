-- Blocks that are made of starts.
use Rattle.std.specs.Prelude.{◌≡◌, ℕ, ◌+◌, ◌<◌, ◌≤◌, ◌⊎◌, Option, Some, None, List, [], ◌∷◌, ◌++◌}
use Rattle.std.specs.Prelude.{length, get_or, Contains}
use Rattle.cfg_model.specs.declared.graph.Block.{Block}
use Rattle.cfg_model.specs.declared.graph.Edge.{Edge}
use Rattle.cfg_model.specs.Program.Chain.{GoesOnTo, IsTerminatorOf, OnChain}
use Rattle.cfg_model.specs.Program.Instructions.{InstructionMap}
use Rattle.cfg_model.specs.Program.Status.{Returns}
use Rattle.cfg_model.specs.Graph.Block.{IsLastOf, IsBlockOf}
use Rattle.cfg_model.specs.Graph.Edge.{Leaves}
use Rattle.cfg_model.specs.Graph.Listing.{Gains}

-- The chain of s ends at k, below t, or goes straight on from k to t. If there is no t, it ends at
-- k.
abbrev pub StopsAt : InstructionMap → ℕ → Option ℕ → ℕ → Type 0
StopsAt map s None k = IsTerminatorOf map s k
StopsAt map s (Some t) k =
    (IsTerminatorOf map s k × (k < t)) ⊎ (OnChain map s k × GoesOnTo map k t)

-- The blocks from these starts, cut at these addresses, have these last ones.
pub record AreCutAt (map : InstructionMap) (IsCut : ℕ → Type 0) (starts lasts : List ℕ)
    : Type 0 where
  pub as_many : length lasts ≡ length starts
  pub each : (i d : ℕ) → i < length starts
      → IsLastOf map IsCut (get_or starts i d) (get_or lasts i d)

-- The block at place j, of those with these starts and last addresses, overlaps another: the next one
-- starts in it, or it starts in an earlier one.
abbrev pub IsMixed : List ℕ → List ℕ → ℕ → Type 0
IsMixed starts lasts j =
    ((j + 1 < length starts) × (get_or starts (j + 1) 0 ≤ get_or lasts j 0))
    ⊎ ((i : ℕ) × (i < j) × (get_or starts j 0 ≤ get_or lasts i 0))

-- These are starts, among them those of all blocks that overlap others.
pub record HoldMixed (starts lasts : List ℕ) (mixed : List ℕ) : Type 0 where
  pub start : (a : ℕ) → Contains mixed a → Contains starts a
  pub all : (j : ℕ) → j < length starts → IsMixed starts lasts j
      → Contains mixed (get_or starts j 0)

-- The block from s to k and its edges come to the old ones.
pub record IsMadeOf (map : InstructionMap) (s k : ℕ) (old new : List Block)
    (before after : List Edge) : Type 0 where
  pub block : Block
  pub pushed : new ≡ old ++ block ∷ []
  pub is : IsBlockOf map s k block
  pub gained : Gains before after (Leaves map (Returns map) s k)
