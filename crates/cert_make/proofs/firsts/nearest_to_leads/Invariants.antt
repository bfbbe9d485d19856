use Rattle.cert_make.specs.Inner.Offers.{AreFirsts, IsHandedOn}
use Rattle.cert_make.proofs.firsts.nearest_to_leads.Given as goal

-- the first of the offers so far
abbrev pub invariant-loop-i : goal.invariant-loop-i
invariant-loop-i l = AreFirsts l.count (IsHandedOn l.exits l.offers l.i) l.firsts.items
