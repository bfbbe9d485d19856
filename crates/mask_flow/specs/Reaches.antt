-- Where bits of masks come to, going backwards along the ways of a graph.
use Rattle.std.specs.Prelude.{◌≡◌, ◌↔◌, ℕ, ◌/◌, ◌%◌, ◌^◌, ◌<◌, ◌==◌, Bool, IsTrue, IsFalse, List}
use Rattle.std.specs.Prelude.{length, slice_index, Contains}
use Rattle.mask_flow.specs.declared.ways.Way.{Way}

-- Bit r of a mask is set.
abbrev pub has_bit : ℕ → ℕ → Bool
has_bit mask r = mask / 2 ^ r % 2 == 1

-- The way joins two of so many nodes.
pub record IsWithin (nodes : ℕ) (way : Way) : Type 0 where
  pub leaves : way.from < nodes
  pub enters : way.to < nodes

-- Bit r comes to a node: its mask has it at the start, or it comes to the end of a way from this
-- node, where it does not stop. Nodes are known by their places in the lists of masks.
pub data Reaches (starts stops : List ℕ) (ways : List Way) (r : ℕ) : ℕ → Type 0 where
  here : {node : ℕ} → IsTrue (has_bit (slice_index starts node) r)
      → Reaches starts stops ways r node
  along : {way : Way} → Contains ways way → IsFalse (has_bit (slice_index stops way.from) r)
      → Reaches starts stops ways r way.to → Reaches starts stops ways r way.from

-- Each mask has exactly the bits that come to its node.
pub record HaveAll (starts stops : List ℕ) (ways : List Way) (masks : List ℕ) : Type 0 where
  pub as_many : length masks ≡ length starts
  pub exact : (node r : ℕ) → node < length starts → r < 32
      → IsTrue (has_bit (slice_index masks node) r) ↔ Reaches starts stops ways r node
