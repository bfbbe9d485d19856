use Rattle.std.proofs.Common.{◌≡◌, ℕ, ◌-◌, ◌^◌, ◌<◌, ◌≤◌, length, get_or}
use Rattle.std.specs.Prelude.{IsSome}
use Rattle.cert_text.specs.declared.lines.LeadLine.{LeadLine}
use Rattle.cert_check.specs.Inner.Blocks.{owner_by}
use Rattle.cert_check.proofs.Walked.{IsWalked}
use Rattle.cert_check.proofs.blocks.walk.Given as goal

abbrev pub invariant-loop-flow : goal.invariant-loop-flow
invariant-loop-flow g l = record {
  kept : length l.owners.places.items ≡ length l.initial.owners.places.items;
  walked : IsWalked (g.C.Chains.map l.code) l.leads (owner_by (g.C.Numbered.number l.code) l.owners.places.items) l.i l.at;
  stands : IsSome (g.C.Chains.map l.code l.at);
  within : l.ahead ≤ length l.leads;
  passed : (k : ℕ) (d : LeadLine) → k < l.ahead → (get_or l.leads k d).at ≤ l.at;
}

abbrev pub decreases-loop-flow : goal.decreases-loop-flow
decreases-loop-flow g l = 2 ^ 64 - l.at
