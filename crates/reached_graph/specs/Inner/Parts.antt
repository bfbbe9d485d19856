-- Blocks and edges that are made part by part.
use Rattle.std.specs.Prelude.{◌≡◌, ℕ, ◌+◌, ◌*◌, ◌<◌, ◌≤◌, List, [], length, get_or, slice_index_or}
use Rattle.std.specs.Prelude.{IfOk, IsOk, Result, Ok, Err}
use Rattle.std.specs.declared.alloc.AllocError.{AllocError as Memory}
use Rattle.cfg_model.specs.declared.graph.Block.{Block}
use Rattle.cfg_model.specs.declared.graph.Edge.{Edge}
use Rattle.cfg_model.specs.Program.Instructions.{InstructionMap}
use Rattle.cfg_model.specs.Program.Status.{Returns}
use Rattle.cfg_model.specs.Graph.Block.{IsBlockOf}
use Rattle.cfg_model.specs.Graph.Edge.{Leaves}
use Rattle.cfg_model.specs.Graph.Graph.{EdgeBefore}
use Rattle.cfg_model.specs.Graph.Listing.{Lists}
use Rattle.reached_graph.specs.declared.leaders.Leaders.{Leaders}
use Rattle.reached_graph.specs.declared.outline.Part.{Part}
use Rattle.reached_graph.specs.Inner.Cuts.{AreCutIn}

-- The edge leaves one of the blocks from these starts to these last addresses.
abbrev pub LeavesOne : InstructionMap → List ℕ → List ℕ → Edge → Type 0
LeavesOne map starts lasts edge =
    (j : ℕ) × (j < length starts)
    × Leaves map (Returns map) (get_or starts j 0) (get_or lasts j 0) edge

-- These are the blocks from these starts to these last addresses, and the edges that leave them, in
-- order.
pub record ArePart (map : InstructionMap) (starts lasts : List ℕ) (blocks : List Block)
    (edges : List Edge) : Type 0 where
  pub as_many : length blocks ≡ length starts
  pub each : (j : ℕ) (b : Block) → j < length starts
      → IsBlockOf map (get_or starts j 0) (get_or lasts j 0) (get_or blocks j b)
  pub listed : Lists EdgeBefore (LeavesOne map starts lasts) edges

-- What a worker answers of its part.
abbrev pub Answered : Type 0
Answered = Result Part Memory

-- The part was made.
abbrev pub IsMade : Answered → Type 0
IsMade answer = IsOk answer

-- The blocks and edges of a part; none if memory ran out.
abbrev pub blocks_in : Answered → List Block
blocks_in (Ok part) = part.blocks.items
blocks_in (Err e) = []

abbrev pub edges_in : Answered → List Edge
edges_in (Ok part) = part.edges.items
edges_in (Err e) = []

-- They are those of the blocks that start at the cuts whose numbers are from and more, but below
-- until.
pub record IsMadeIn (map : InstructionMap) (number : ℕ → ℕ) (IsCut : ℕ → Type 0) (from until : ℕ)
    (blocks : List Block) (edges : List Edge) : Type 0 where
  pub starts : List ℕ
  pub lasts : List ℕ
  pub cut : AreCutIn map number IsCut from until starts lasts
  pub part : ArePart map starts lasts blocks edges

-- The cuts of each range of this many numbers, of all these numbers.
pub record AreCutByRange (map : InstructionMap) (number : ℕ → ℕ) (IsCut : ℕ → Type 0)
    (size numbers : ℕ) (ranges : List Leaders) : Type 0 where
  pub all : numbers ≤ length ranges * size
  pub each : (n : ℕ) (d : Leaders) → n < length ranges → AreCutIn map number IsCut (n * size)
      (n * size + size) (get_or ranges n d).starts.items (get_or ranges n d).lasts.items

-- What a worker answers of the cuts of a range.
abbrev pub AnsweredCuts : Type 0
AnsweredCuts = Result Leaders Memory

-- Each range of this many numbers has an answer: its cuts.
pub record AnswerCuts (map : InstructionMap) (number : ℕ → ℕ) (IsCut : ℕ → Type 0)
    (size numbers : ℕ) (answers : List AnsweredCuts) : Type 0 where
  pub all : numbers ≤ length answers * size
  pub each : (n : ℕ) (d : AnsweredCuts) → n < length answers
      → IfOk (slice_index_or answers n d) (λ blocks. AreCutIn map number IsCut (n * size)
      (n * size + size) blocks.starts.items blocks.lasts.items)

-- Each range of this many numbers has an answer: its blocks and edges.
pub record AnswerParts (map : InstructionMap) (number : ℕ → ℕ) (IsCut : ℕ → Type 0)
    (size numbers : ℕ) (answers : List Answered) : Type 0 where
  pub all : numbers ≤ length answers * size
  pub each : (n : ℕ) (d : Answered) → n < length answers
      → IfOk (slice_index_or answers n d) (λ part. IsMadeIn map number IsCut (n * size)
      (n * size + size) part.blocks.items part.edges.items)
