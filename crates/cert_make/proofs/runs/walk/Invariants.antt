use Rattle.std.proofs.Common.{ℕ, ◌-◌, ◌^◌, ◌<◌, ◌≤◌, length, get_or}
use Rattle.std.specs.Prelude.{IsSome}
use Rattle.cert_text.specs.declared.lines.LeadLine.{LeadLine}
use Rattle.cert_make.proofs.Walked.{IsWalked}
use Rattle.cert_make.proofs.runs.walk.Given as goal

abbrev pub invariant-loop-next : goal.invariant-loop-next
invariant-loop-next g l = record {
  walked : IsWalked (g.C.Chains.map l.code) l.lines l.i l.at;
  stands : IsSome (g.C.Chains.map l.code l.at);
  within : l.ahead ≤ length l.lines;
  passed : (k : ℕ) (d : LeadLine) → k < l.ahead → (get_or l.lines k d).at ≤ l.at;
}

abbrev pub decreases-loop-next : goal.decreases-loop-next
decreases-loop-next g l = 2 ^ 64 - l.at
