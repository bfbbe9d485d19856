use Rattle.reached_graph.specs.Inner.Cuts.{AreLastAtSome}
use Rattle.reached_graph.proofs.Merging.{AreMerged}
use Rattle.reached_graph.proofs.leaders.Leaders.merged.Given as goal

abbrev pub invariant-loop-a : goal.invariant-loop-a
invariant-loop-a g l = record {
  merged : AreMerged l.self.starts.items l.joins l.place l.a-index l.blocks.starts.items;
  cut : AreLastAtSome (g.C.Chains.map l.code) (g.C.Numbered.number l.code) l.marks l.blocks.starts.items l.blocks.lasts.items;
}
