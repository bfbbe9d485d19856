use Rattle.std.proofs.Common.{◌≡◌, ◌<◌, ◌^◌, map, take}
use Rattle.std.specs.Prelude.{All}
use Rattle.cert_text.specs.declared.lines.LeadLine.{LeadLine}
use Rattle.cert_make.proofs.ExactLeads.{lead_at_of}
use Rattle.cert_make.proofs.leads.ranked.Given as goal

abbrev pub invariant-loop-i : goal.invariant-loop-i
invariant-loop-i l = (map lead_at_of l.next.items ≡ map lead_at_of (take l.i l.lines)) × All (λ (x : LeadLine). x.rank < 2 ^ 32) l.next.items
