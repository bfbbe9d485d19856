-- How the parts of a graph fit together.
use Rattle.std.specs.Prelude.{◌≡◌, ℕ, List, Contains}
use Rattle.cfg_model.specs.declared.graph.Block.{Block}
use Rattle.cfg_model.specs.declared.graph.Edge.{Edge}
use Rattle.cfg_model.specs.declared.graph.Function.{Function}
use Rattle.cfg_model.specs.declared.graph.Graph.{Graph}
use Rattle.cfg_model.specs.Program.Instructions.{InstructionMap, IsLawful}
use Rattle.cfg_model.specs.Program.Reach.{AreSeeds}
use Rattle.cfg_model.specs.Graph.Graph.{IsGraph}

-- One of these blocks starts at a.
pub record StartsABlock (blocks : List Block) (a : ℕ) : Type 0 where
  pub block : Block
  pub listed : Contains blocks block
  pub starts : block.start ≡ a

-- Every edge of a graph leads from a block of the graph to a block of the graph.
abbrev pub EdgesJoinBlocks : Type 0
EdgesJoinBlocks =
    (map : InstructionMap) (seeds : List ℕ) (entry : ℕ) (graph : Graph) → IsLawful map
    → IsGraph map seeds entry graph
    → (edge : Edge) → Contains graph.edges edge
    → StartsABlock graph.blocks edge.from × StartsABlock graph.blocks edge.to

-- Every function of a graph starts with a block of the graph.
abbrev pub EntriesStartBlocks : Type 0
EntriesStartBlocks =
    (map : InstructionMap) (seeds : List ℕ) (entry : ℕ) (graph : Graph) → IsLawful map
    → AreSeeds map seeds → IsGraph map seeds entry graph
    → (function : Function) → Contains graph.functions function
    → StartsABlock graph.blocks function.entry

-- The body of every function of a graph lists blocks of the graph.
abbrev pub BodiesListBlocks : Type 0
BodiesListBlocks =
    (map : InstructionMap) (seeds : List ℕ) (entry : ℕ) (graph : Graph) → IsLawful map
    → AreSeeds map seeds → IsGraph map seeds entry graph
    → (function : Function) → Contains graph.functions function → (a : ℕ) → Contains function.body a
    → StartsABlock graph.blocks a
