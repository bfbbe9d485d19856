use Rattle.std.proofs.Common.{ℕ, Bool, List, ◌-◌, ◌^◌}
use Rattle.numbered.specs.Numbering.{IsMarked}
use Rattle.reached_graph.specs.Inner.Walks.{AreFit, AreJoined, At, HaveWalked}
use Rattle.reached_graph.proofs.walks.Walks.go_on.Given as goal

abbrev pub invariant-loop-next : goal.invariant-loop-next
invariant-loop-next g l = record {
  fit : AreFit (g.C.Chains.map l.code) (g.C.Numbered.number l.code) l.self;
  kept : (a : ℕ) → IsMarked (g.C.Chains.map l.code) (g.C.Numbered.number l.code) l.initial.self.walked.items a → IsMarked (g.C.Chains.map l.code) (g.C.Numbered.number l.code) l.self.walked.items a;
  joined : (marks : List Bool) → AreJoined (g.C.Chains.map l.code) (g.C.Numbered.number l.code) marks l.initial.self → AreJoined (g.C.Chains.map l.code) (g.C.Numbered.number l.code) marks l.self;
  here : IsMarked (g.C.Chains.map l.code) (g.C.Numbered.number l.code) l.self.walked.items l.at;
  walked : (seeds : List ℕ) (marks : List Bool) → HaveWalked (g.C.Chains.map l.code) (g.C.Numbered.number l.code) seeds marks l.initial.self (At l.s)
      → HaveWalked (g.C.Chains.map l.code) (g.C.Numbered.number l.code) seeds marks l.self (At l.at);
}

abbrev pub decreases-loop-next : goal.decreases-loop-next
decreases-loop-next g l = 2 ^ 64 - l.at
