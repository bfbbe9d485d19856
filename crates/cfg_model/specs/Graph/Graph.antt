-- The control-flow graph of a program.
use Rattle.std.specs.Prelude.{◌≡◌, ℕ, ◌<◌, ◌⊎◌, List}
use Rattle.cfg_model.specs.declared.graph.Block.{Block}
use Rattle.cfg_model.specs.declared.graph.Edge.{Edge}
use Rattle.cfg_model.specs.declared.graph.EdgeKind.{EdgeKind}
use Rattle.cfg_model.specs.declared.graph.EdgeKind.TheVariants as kinds
use Rattle.cfg_model.specs.declared.graph.Function.{Function}
use Rattle.cfg_model.specs.declared.graph.Graph.{Graph}
use Rattle.cfg_model.specs.Program.Instructions.{InstructionMap}
use Rattle.cfg_model.specs.Graph.Block.{IsBlock}
use Rattle.cfg_model.specs.Graph.Edge.{IsEdge}
use Rattle.cfg_model.specs.Graph.Function.{IsFunction, IsMarkedEdge}
use Rattle.cfg_model.specs.Graph.Listing.{Lists}

-- The place of an edge's kind among the kinds.
abbrev pub rank : EdgeKind → ℕ
rank kinds.Fall = 0
rank kinds.Taken = 1
rank kinds.Jump = 2
rank kinds.Tail = 3
rank kinds.Call = 4
rank kinds.After = 5
rank kinds.Table = 6
rank kinds.Landing = 7

-- Blocks are in order by where they start, functions by their entries.
abbrev pub BlockBefore : Block → Block → Type 0
BlockBefore a b = a.start < b.start

abbrev pub FunctionBefore : Function → Function → Type 0
FunctionBefore f g = f.entry < g.entry

-- Edges are in order by where they come from, then by where they go, then by kind.
abbrev pub EdgeBefore : Edge → Edge → Type 0
EdgeBefore a b =
    (a.from < b.from)
    ⊎ ((a.from ≡ b.from) × ((a.to < b.to) ⊎ ((a.to ≡ b.to) × (rank a.kind < rank b.kind))))

-- The blocks and edges of a program, before tail calls are marked.
pub record IsOutline (map : InstructionMap) (seeds : List ℕ) (blocks : List Block)
    (edges : List Edge) : Type 0 where
  pub all_blocks : Lists BlockBefore (IsBlock map seeds) blocks
  pub all_edges : Lists EdgeBefore (IsEdge map seeds) edges

-- The graph of a program: its functions, its blocks, and its edges with tail calls marked.
pub record IsGraph (map : InstructionMap) (seeds : List ℕ) (entry : ℕ)
    (graph : Graph) : Type 0 where
  pub starts : graph.entry ≡ entry
  pub functions : Lists FunctionBefore (IsFunction map seeds) graph.functions
  pub blocks : Lists BlockBefore (IsBlock map seeds) graph.blocks
  pub edges : Lists EdgeBefore (IsMarkedEdge map seeds) graph.edges
