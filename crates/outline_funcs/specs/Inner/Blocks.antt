-- Blocks, which are known by their numbers: their places in the list of all blocks.
use Rattle.std.specs.Prelude.{◌≡◌, ℕ, ◌<◌, List, length, slice_index_or, Contains}
use Rattle.cfg_model.specs.declared.graph.Block.{Block}

-- One of these blocks starts at a.
abbrev pub HasBlockAt : List Block → ℕ → Type 0
HasBlockAt blocks a = (block : Block) × Contains blocks block × (block.start ≡ a)

-- Block number i starts at a.
pub record IsNumber (blocks : List Block) (i a : ℕ) : Type 0 where
  pub within : i < length blocks
  pub starts : (d : Block) → (slice_index_or blocks i d).start ≡ a
