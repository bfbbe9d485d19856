use Rattle.std.proofs.Common.{ℕ, ◌-◌, ◌<◌, ◌≤◌, length, get_or}
use Rattle.reached_graph.proofs.cuts.place_from.Given as goal

abbrev pub invariant-loop-place : goal.invariant-loop-place
invariant-loop-place l = record {
  from : l.from ≤ l.place;
  within : l.place ≤ length l.starts;
  below : (k : ℕ) → l.from ≤ k → k < l.place → get_or l.starts k 0 < l.a;
}

abbrev pub decreases-loop-place : goal.decreases-loop-place
decreases-loop-place l = length l.starts - l.place
