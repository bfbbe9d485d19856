-- Words of private functions, which no public contract cites.
use Rattle.std.specs.Prelude.{◌≡◌, ℕ, ◌<◌, ◌≤◌, IsTrue, List, length, All, bit_and, bit_or}
use Rattle.std.specs.Prelude.{slice_index, slice_index_or}
use Rattle.std.specs.Int.{w32, bit_not}
use Rattle.mask_flow.specs.declared.ways.Entering.{Entering}
use Rattle.mask_flow.specs.declared.ways.Way.{Way}
use Rattle.mask_flow.specs.Reaches.{has_bit, Reaches}

-- The mask of the node that a way leaves, after the bits of the node that it enters were handed on.
unfoldable pub passed : List ℕ → List ℕ → Way → ℕ
passed stops masks way =
    bit_or (slice_index masks way.from)
    (bit_and (slice_index masks way.to) (bit_not w32 (slice_index stops way.from)))

-- The masks have the bits that were there at the start, and none but those that come to their nodes.
pub record IsSpread (starts stops : List ℕ) (ways : List Way) (masks : List ℕ) : Type 0 where
  pub as_many : length masks ≡ length starts
  pub kept : (node r : ℕ) → node < length starts → r < 32
      → IsTrue (has_bit (slice_index starts node) r) → IsTrue (has_bit (slice_index masks node) r)
  pub sound : (node r : ℕ) → node < length starts → r < 32
      → IsTrue (has_bit (slice_index masks node) r) → Reaches starts stops ways r node

-- What was true of the masks in that way is so still.
abbrev pub KeepsSpread : List ℕ → List Way → List ℕ → List ℕ → Type 0
KeepsSpread stops ways old new =
    (starts : List ℕ) → IsSpread starts stops ways old → IsSpread starts stops ways new

-- The way changes nothing any more.
abbrev pub IsSettled : List ℕ → List ℕ → Way → Type 0
IsSettled stops masks way = passed stops masks way ≡ slice_index masks way.from

-- The numbers are those of so many ways into so many nodes, or 0: each leads to a lesser one.
pub record AreLinked (nodes ways : ℕ) (entering : Entering) : Type 0 where
  pub lasts : length entering.lasts.items ≡ nodes
  pub others : length entering.others.items ≡ ways
  pub numbers : All (λ number. number ≤ ways) entering.lasts.items
  pub lesser : (k d : ℕ) → k < ways → slice_index_or entering.others.items k d ≤ k
