use Rattle.std.proofs.Common.{ℕ, ◌-◌, ◌<◌, ◌≤◌, length, get_or}
use Rattle.cert_text.specs.declared.lines.LeadLine.{LeadLine}
use Rattle.cert_ends.proofs.leads.place_from.Given as goal

abbrev pub invariant-loop-i : goal.invariant-loop-i
invariant-loop-i l = record {
  within : l.i ≤ length l.leads;
  before : (k : ℕ) (d : LeadLine) → k < l.i → (get_or l.leads k d).at < l.a;
}

abbrev pub decreases-loop-i : goal.decreases-loop-i
decreases-loop-i l = length l.leads - l.i
