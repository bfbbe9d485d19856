-- The outline that a graph was made from: tail calls are jumps there.
use Rattle.std.specs.Prelude.{map}
use Rattle.cfg_model.specs.declared.graph.Edge.{Edge}
use Rattle.cfg_model.specs.declared.graph.EdgeKind.{EdgeKind}
use Rattle.cfg_model.specs.declared.graph.EdgeKind.TheVariants as kinds
use Rattle.cfg_model.specs.declared.graph.Graph.{Graph}
use Rattle.cfg_model.specs.declared.graph.Outline.{Outline}

-- The kind of an edge before tail calls are marked.
abbrev pub unmarked_kind : EdgeKind → EdgeKind
unmarked_kind kinds.Tail = kinds.Jump
unmarked_kind kind = kind

-- The edge before tail calls are marked.
abbrev pub unmarked : Edge → Edge
unmarked edge = record edge { kind = unmarked_kind edge.kind }

-- The blocks of a graph, and its edges before tail calls are marked.
abbrev pub outline_of : Graph → Outline
outline_of graph = record { blocks = graph.blocks; edges = map unmarked graph.edges }
