use Rattle.std.proofs.Common.{◌≡◌, ◌≤◌, ◌⊎◌}
use Rattle.numbered.proofs.Listing.{AreListed}
use Rattle.numbered.proofs.marked.marked_between.Given as goal

abbrev pub invariant-loop-n : goal.invariant-loop-n
invariant-loop-n g l = record {
  up : l.from ≤ l.n;
  low : (l.n ≤ l.end) ⊎ (l.n ≡ l.from);
  listed : AreListed (g.C.Chains.map l.code) (g.C.Numbered.number l.code) l.marks l.from l.n l.addresses.items;
}
