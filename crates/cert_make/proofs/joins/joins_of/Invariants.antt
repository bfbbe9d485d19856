use Rattle.std.proofs.Common.{◌≡◌, ℕ, ◌<◌, Option, length, get_or}
use Rattle.cert_make.specs.declared.joins.Meeting.{Meeting}
use Rattle.cert_make.specs.Inner.Fronts.{AreFallen}
use Rattle.cert_make.specs.Inner.Settled.{IsJoinAt}
use Rattle.cert_make.proofs.joins.joins_of.Given as goal

abbrev pub invariant-loop-i : goal.invariant-loop-i
invariant-loop-i g l = record {
  shorts : AreFallen (g.C.Chains.map l.code) l.lines l.runs 2 l.i l.shorts.items;
  longs : AreFallen (g.C.Chains.map l.code) l.lines l.runs 4 l.i l.longs.items;
  many : length l.joins.items ≡ l.i;
  each : (j : ℕ) (d : Option Meeting) → j < l.i → IsJoinAt (g.C.Chains.map l.code) l.lines j (get_or l.joins.items j d);
}
