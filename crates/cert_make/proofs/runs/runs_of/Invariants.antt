use Rattle.std.proofs.Common.{◌≡◌, ℕ, ◌<◌, length, get_or}
use Rattle.cert_make.specs.declared.runs.Run.{Run}
use Rattle.cert_make.specs.Inner.Runs.{IsRun}
use Rattle.cert_make.proofs.runs.runs_of.Given as goal

abbrev pub invariant-loop-i : goal.invariant-loop-i
invariant-loop-i g l = record {
  as_many : length l.runs.items ≡ l.i;
  each : (j : ℕ) (d : Run) → j < l.i → IsRun (g.C.Chains.map l.code) l.lines j (get_or l.runs.items j d);
}
