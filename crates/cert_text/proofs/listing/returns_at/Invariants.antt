use Rattle.std.proofs.Common.{length}
use Rattle.cert_text.specs.Sections.{IsReturns}
use Rattle.cert_text.proofs.listing.returns_at.Given as goal

abbrev pub invariant-loop-fields : goal.invariant-loop-fields
invariant-loop-fields l = IsReturns l.bytes l.lines.items l.rest

abbrev pub decreases-loop-fields : goal.decreases-loop-fields
decreases-loop-fields l = length l.rest
