use Rattle.std.proofs.Common.{◌≡◌, ℕ, ◌<◌, length, get_or}
use Rattle.cfg_model.specs.Graph.Block.{IsLastOf}
use Rattle.numbered.specs.Numbering.{IsMarked}
use Rattle.reached_graph.specs.Inner.Cuts.{AreLastAtSome}
use Rattle.reached_graph.proofs.leaders.Leaders.cut_all.Given as goal

abbrev pub invariant-loop-i : goal.invariant-loop-i
invariant-loop-i g l = record {
  starts : l.self.starts ≡ l.initial.self.starts;
  some : AreLastAtSome (g.C.Chains.map l.code) (g.C.Numbered.number l.code) l.marks l.self.starts.items l.self.lasts.items;
  done : (j d : ℕ) → j < l.i → j < length l.self.starts.items
      → IsLastOf (g.C.Chains.map l.code) (IsMarked (g.C.Chains.map l.code) (g.C.Numbered.number l.code) l.marks) (get_or l.self.starts.items j d) (get_or l.self.lasts.items j d);
}
