use Rattle.std.proofs.Common.{length}
use Rattle.cert_make.specs.Inner.Offers.{AreFirsts, IsOwnOffer}
use Rattle.cert_make.proofs.firsts.nearest_to_ends.Given as goal

-- the first of the offers so far
abbrev pub invariant-loop-i : goal.invariant-loop-i
invariant-loop-i l = AreFirsts (length l.ends.terms.items) (IsOwnOffer l.lines l.ends.of.items l.i) l.firsts.items
