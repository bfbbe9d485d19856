-- Which block comes after which, by their places.
use Rattle.std.specs.Prelude.{◌≡◌, ℕ, ◌<◌, ◌≤◌, List, length, slice_index_or, Option, Some, None}
use Rattle.cfg_model.specs.declared.flow.Flow.TheVariants.{Straight}
use Rattle.cert_check.specs.declared.blocks.Run.{Run}
use Rattle.cert_check.specs.declared.jumps.Jump.{Jump}

-- Where the block at a place goes on.
abbrev pub into_of : List Run → ℕ → Option ℕ
into_of runs i = (slice_index_or runs i (record { last = 0; into = None; flow = Straight 0 })).into

-- The block at place j comes after that at place i, or is the same.
pub data LeadsAlong (runs : List Run) : ℕ → ℕ → Type 0 where
  here : {i : ℕ} → LeadsAlong runs i i
  on : {i next j : ℕ} → into_of runs i ≡ Some next → LeadsAlong runs next j → LeadsAlong runs i j

-- Blocks only go on into later ones.
pub record IsForest (runs : List Run) : Type 0 where
  pub onward : (i next : ℕ) → into_of runs i ≡ Some next → (i < next) × (next < length runs)

-- From place `first` on, each jump leads to a block that comes after.
pub record AreJumps (runs : List Run) (jumps : List Jump) (first : ℕ) : Type 0 where
  pub as_many : length jumps ≡ length runs
  pub along : (i : ℕ) (d : Jump) → first ≤ i → i < length runs
      → LeadsAlong runs i (slice_index_or jumps i d).to
