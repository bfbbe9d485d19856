use Rattle.std.proofs.Common.{ℕ, List, take}
use Rattle.std.specs.Prelude.{Contains}
use Rattle.reached_graph.specs.Inner.Leaders.{AreStarts}
use Rattle.numbered.specs.Numbering.{IsMarked}
use Rattle.reached_graph.specs.Inner.Walks.{AreFit, AreJoined, HaveWalked, Nowhere}
use Rattle.reached_graph.proofs.walks.Walks.of.Given as goal

abbrev pub invariant-loop-s : goal.invariant-loop-s
invariant-loop-s g l = record {
  fit : AreFit (g.C.Chains.map l.code) (g.C.Numbered.number l.code) l.walks;
  begun : (a : ℕ) → Contains (take l.s-index l.firsts) a → IsMarked (g.C.Chains.map l.code) (g.C.Numbered.number l.code) l.walks.walked.items a;
  joined : AreJoined (g.C.Chains.map l.code) (g.C.Numbered.number l.code) l.marks l.walks;
  walked : (seeds : List ℕ) → AreStarts (g.C.Chains.map l.code) seeds (IsMarked (g.C.Chains.map l.code) (g.C.Numbered.number l.code) l.marks) → HaveWalked (g.C.Chains.map l.code) (g.C.Numbered.number l.code) seeds l.marks l.walks Nowhere;
}
