use Rattle.std.proofs.Common.{◌≡◌, map, take}
use Rattle.cert_make.proofs.ExactLeads.{lead_at_of}
use Rattle.cert_make.proofs.leads.first_lead_lines.Given as goal

abbrev pub invariant-loop-a : goal.invariant-loop-a
invariant-loop-a l = map lead_at_of l.lines.items ≡ take l.a-index l.leaders
