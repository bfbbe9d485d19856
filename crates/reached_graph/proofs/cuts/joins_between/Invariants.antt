use Rattle.std.proofs.Common.{ℕ, ◌<◌, ◌≤◌, take}
use Rattle.std.specs.Prelude.{◌↔◌, Contains}
use Rattle.reached_graph.proofs.Merging.{Rises}
use Rattle.reached_graph.proofs.cuts.joins_between.Given as goal

abbrev pub invariant-loop-a : goal.invariant-loop-a
invariant-loop-a g l = record {
  rise : Rises l.between.items;
  exact : (x : ℕ) → Contains l.between.items x ↔ Contains (take l.a-index l.joins) x × (l.from ≤ g.C.Numbered.number l.code x) × (g.C.Numbered.number l.code x < l.until);
}
