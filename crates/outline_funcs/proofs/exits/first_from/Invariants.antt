use Rattle.std.proofs.Common.{ℕ, ◌-◌, ◌<◌, ◌≤◌, length, get_or}
use Rattle.cfg_model.specs.declared.graph.Edge.{Edge}
use Rattle.outline_funcs.proofs.exits.first_from.Given as goal

abbrev pub invariant-loop-first : goal.invariant-loop-first
invariant-loop-first l = record {
  within : l.first ≤ length l.edges;
  before : (k : ℕ) (d : Edge) → k < l.first → (get_or l.edges k d).from < l.a;
}

abbrev pub decreases-loop-first : goal.decreases-loop-first
decreases-loop-first l = length l.edges - l.first
