use Rattle.std.proofs.Common.{ℕ, ◌≤◌}
use Rattle.numbered.specs.Numbering.{IsMarked}
use Rattle.numbered.proofs.marked.first_marked.Given as goal

-- no marked address has one of the numbers that were looked at
abbrev pub invariant-loop-n : goal.invariant-loop-n
invariant-loop-n g l = record {
  up : l.from ≤ l.n;
  none : (a : ℕ) → IsMarked (g.C.Chains.map l.code) (g.C.Numbered.number l.code) l.marks a → l.from ≤ g.C.Numbered.number l.code a → l.n ≤ g.C.Numbered.number l.code a;
}
