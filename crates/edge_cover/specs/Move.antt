-- The move of a step in the graph of a program.
use Rattle.std.specs.Prelude.{◌≡◌, ℕ, ◌+◌, ◌==◌, ◌&&◌, nat_lt, Bool, List, Contains}
use Rattle.std.specs.Prelude.{Option, Some, None, if◌then◌else◌}
use Rattle.std.specs.List.{find}
use Rattle.cfg_model.specs.declared.graph.Block.{Block}
use Rattle.cfg_model.specs.declared.graph.Edge.{Edge}
use Rattle.cfg_model.specs.Program.Instructions.{InstructionMap, length_at}
use Rattle.cfg_model.specs.Graph.Graph.{IsOutline}
use Rattle.cfg_model.specs.Graph.Places.{LiesIn}
use Rattle.cfg_model.specs.declared.graph.Outline.{Outline}
use Rattle.edge_cover.specs.declared.moves.Move.{Move}
use Rattle.edge_cover.specs.declared.moves.Move.TheVariants.{Inside, Along, Out}

-- The edge leads from the block at one address to the block at another.
abbrev pub joins : ℕ → ℕ → Edge → Bool
joins from to edge = edge.from == from && edge.to == to

-- Along this edge, or out of the block where there is none.
abbrev pub along : Block → Option Edge → Move
along block None = Out block.kind
along block (Some edge) = Along edge.kind

-- The move of a step to an address from an instruction of a block that ends just before `next`.
-- Within the block it is Inside where it leads to the next address. From the end of the block it
-- is Along the first edge to the block at that address. Every other one is Out.
abbrev pub move_in : Block → List Edge → ℕ → ℕ → Move
move_in block edges next to =
    if nat_lt next block.end
    then (if to == next then Inside else Out block.kind)
    else along block (find (joins block.start to) edges)

-- The move of a step from `from` to `to` is this one, in whatever block `from` lies.
abbrev pub IsMoveOf : InstructionMap → Outline → ℕ → ℕ → Move → Type 0
IsMoveOf map outline from to move =
    (seeds : List ℕ) → IsOutline map seeds outline.blocks outline.edges
    → (block : Block) → Contains outline.blocks block → LiesIn map seeds block from
    → (bytes : ℕ) → length_at map from ≡ Some bytes
    → move ≡ move_in block outline.edges (from + bytes) to
