use Rattle.cert_ends.proofs.Numbers.{AreKept}
use Rattle.cert_ends.proofs.numbered_returns.NumberedReturns.new.Given as goal

abbrev pub invariant-loop-i : goal.invariant-loop-i
invariant-loop-i g l = AreKept (g.C.Chains.map l.code) (g.C.Numbered.number l.code) l.lines l.i l.places.items
