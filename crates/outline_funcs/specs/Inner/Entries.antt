-- The entries of functions, read off a list of edges.
use Rattle.std.specs.Prelude.{◌≡◌, ◌↔◌, ℕ, ◌⊎◌, Bool, false, List, length, slice_index_or}
use Rattle.std.specs.Prelude.{Contains, IsTrue}
use Rattle.std.specs.List.Sorted.{IsStrictlyIncreasing}
use Rattle.cfg_model.specs.declared.graph.Block.{Block}
use Rattle.cfg_model.specs.declared.graph.Edge.{Edge}
use Rattle.cfg_model.specs.declared.graph.EdgeKind.TheVariants as kinds
use Rattle.outline_funcs.specs.Inner.Blocks.{IsNumber}

-- The edge is a call of this address.
pub record CallsTo (edge : Edge) (a : ℕ) : Type 0 where
  pub call : edge.kind ≡ kinds.Call
  pub target : a ≡ edge.to

-- One of these edges is.
abbrev pub AreCalledBy : List Edge → ℕ → Type 0
AreCalledBy edges a = (edge : Edge) × Contains edges edge × CallsTo edge a

-- These are the entries: the seeds and the targets of calls, rising.
pub record AreEntriesBy (edges : List Edge) (seeds entries : List ℕ) : Type 0 where
  pub rising : IsStrictlyIncreasing entries
  pub exact : (a : ℕ) → Contains entries a ↔ (Contains seeds a ⊎ AreCalledBy edges a)

-- These marks say of each block whether an entry stands at its start.
pub record AreEntered (blocks : List Block) (entries : List ℕ) (marks : List Bool) : Type 0 where
  pub as_many : length marks ≡ length blocks
  pub exact : (i a : ℕ) → IsNumber blocks i a
      → IsTrue (slice_index_or marks i false) ↔ Contains entries a
