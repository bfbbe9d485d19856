use Rattle.std.proofs.Common.{◌-◌, ◌<◌, length}
use Rattle.cert_check.specs.Inner.Jumps.{LeadsAlong}
use Rattle.cert_check.proofs.jumps.leads_along.Given as goal

abbrev pub invariant-loop-at : goal.invariant-loop-at
invariant-loop-at l = record {
  within : l.at < length l.runs;
  along : LeadsAlong l.runs l.from l.at;
  onward : LeadsAlong l.runs l.from l.to → LeadsAlong l.runs l.at l.to;
}

abbrev pub decreases-loop-at : goal.decreases-loop-at
decreases-loop-at l = l.to - l.at
