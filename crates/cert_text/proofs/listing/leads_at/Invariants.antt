use Rattle.std.proofs.Common.{length}
use Rattle.cert_text.specs.Sections.{IsLeads}
use Rattle.cert_text.proofs.listing.leads_at.Given as goal

abbrev pub invariant-loop-fields : goal.invariant-loop-fields
invariant-loop-fields l = IsLeads l.bytes l.lines.items l.rest

abbrev pub decreases-loop-fields : goal.decreases-loop-fields
decreases-loop-fields l = length l.rest
