-- Edges from one block, a form an edge.
use Rattle.std.specs.Prelude.{◌≡◌, ℕ, Option, Some, None}
use Rattle.cfg_model.specs.declared.graph.Edge.{Edge}
use Rattle.cfg_model.specs.declared.graph.EdgeKind.{EdgeKind}

-- The edge from s to this address, of this kind.
abbrev pub edge_to : ℕ → EdgeKind → ℕ → Edge
edge_to s kind to = record { from = s; to = to; kind = kind }

-- The same if there is an address.
abbrev pub IsEdgeTo : ℕ → EdgeKind → Option ℕ → Edge → Type 0
IsEdgeTo s kind None edge = ⊥
IsEdgeTo s kind (Some to) edge = edge ≡ edge_to s kind to
