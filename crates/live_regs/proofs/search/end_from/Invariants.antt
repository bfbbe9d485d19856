use Rattle.std.proofs.Common.{◌≡◌, ℕ, ◌-◌, ◌<◌, ◌≤◌, length, get_or}
use Rattle.cfg_model.specs.declared.graph.Edge.{Edge}
use Rattle.live_regs.proofs.search.end_from.Given as goal

abbrev pub invariant-loop-end : goal.invariant-loop-end
invariant-loop-end l =
    (l.first ≤ l.end) × (l.end ≤ length l.edges) × ((k : ℕ) (d : Edge) → l.first ≤ k → k < l.end → (get_or l.edges k d).from ≡ l.a)

abbrev pub decreases-loop-end : goal.decreases-loop-end
decreases-loop-end l = length l.edges - l.end
