use Rattle.std.proofs.Common.{ℕ, ◌+◌, ◌<◌, get_or}
use Rattle.cfg_model.specs.declared.graph.Edge.{Edge}
use Rattle.cfg_model.specs.Graph.Graph.{EdgeBefore}
use Rattle.reached_graph.proofs.edges.are_in_order.Given as goal

abbrev pub invariant-loop-i : goal.invariant-loop-i
invariant-loop-i l = (k : ℕ) (d : Edge) → k + 1 < l.i → EdgeBefore (get_or l.edges k d) (get_or l.edges (k + 1) d)
