use Rattle.std.proofs.Common.{◌≡◌, ℕ, ◌<◌, length, get_or}
use Rattle.cfg_model.specs.Graph.Block.{IsLastOf}
use Rattle.numbered.specs.Numbering.{IsMarked}
use Rattle.reached_graph.proofs.cuts.lasts_in.Given as goal

abbrev pub invariant-loop-i : goal.invariant-loop-i
invariant-loop-i g l = record {
  as_many : length l.lasts.items ≡ l.i;
  each : (j d : ℕ) → j < length l.lasts.items
      → IsLastOf (g.C.Chains.map l.code) (IsMarked (g.C.Chains.map l.code) (g.C.Numbered.number l.code) l.marks) (get_or l.starts j d) (get_or l.lasts.items j d);
}
