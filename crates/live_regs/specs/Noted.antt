-- What is noted of the blocks of a program: the registers that each reads and writes. And where the
-- edges of a block stand in the list of all edges.
use Rattle.std.specs.Prelude.{◌≡◌, ℕ, ◌+◌, ◌*◌, ◌<◌, ◌≤◌, List, Vec, length, AllPairs, Option, slice_index_or}
use Rattle.std.specs.List.Sorted.{IsNonDecreasingBy}
use Rattle.std.specs.declared.alloc.Global.{Global}
use Rattle.cfg_model.specs.declared.graph.Block.{Block}
use Rattle.cfg_model.specs.declared.graph.Edge.{Edge}
use Rattle.cfg_model.specs.Graph.Graph.{BlockBefore}
use Rattle.mask_flow.specs.Reaches.{has_bit}
use Rattle.rv_decode.specs.declared.instructions.Insn.{Insn}
use Rattle.live_regs.specs.declared.effects.Effects.{Effects}
use Rattle.live_regs.specs.declared.program.Program.{Program}
use Rattle.live_regs.specs.declared.program.TheConstants.{PIECE_BLOCKS}
use Rattle.live_regs.specs.Run.{instructions_of, reads_first, run_writes}

-- What these instructions read first, and what they write.
pub record AreEffectsOf (run : List (Option Insn)) (effects : Effects) : Type 0 where
  pub reads : (r : ℕ) → r < 32 → has_bit effects.reads r ≡ reads_first run r
  pub writes : (r : ℕ) → r < 32 → has_bit effects.writes r ≡ run_writes run r

-- The edges that leave a stand from one place on and before another.
pub record AreBetween (edges : List Edge) (a first end : ℕ) : Type 0 where
  pub ordered : first ≤ end
  pub within : end ≤ length edges
  pub each : (k : ℕ) (d : Edge) → first ≤ k → k < end → (slice_index_or edges k d).from ≡ a
  pub all : (k : ℕ) (d : Edge) → k < length edges → (slice_index_or edges k d).from ≡ a
      → (first ≤ k) × (k < end)

-- Blocks and edges are in order.
pub record AreInOrder (blocks : List Block) (edges : List Edge) : Type 0 where
  pub by_start : AllPairs BlockBefore blocks
  pub by_from : IsNonDecreasingBy (λ edge. edge.from) edges

-- These are the effects of the blocks from this number on.
abbrev pub AreEffectsFrom : List ℕ → List Block → ℕ → List Effects → Type 0
AreEffectsFrom bytes blocks first all =
    (k : ℕ) (b : Block) (e : Effects) → k < length all
    → AreEffectsOf (instructions_of bytes (slice_index_or blocks (first + k) b)) (slice_index_or all k e)

-- The notes of each piece are the effects of its blocks.
abbrev pub AreNotesOf : List ℕ → List Block → List (Vec Effects Global) → Type 0
AreNotesOf bytes blocks notes =
    (i : ℕ) (piece : Vec Effects Global) → i < length notes
    → AreEffectsFrom bytes blocks (i * PIECE_BLOCKS) (slice_index_or notes i piece).items

-- The blocks and edges of a program are in order, and its notes are those of its blocks.
pub record IsNoted (program : Program) : Type 0 where
  pub order : AreInOrder program.blocks.now program.edges.now
  pub notes : AreNotesOf program.image.now program.blocks.now program.notes.items
