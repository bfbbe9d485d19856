use Rattle.cert_make.proofs.Placed.{AreKept}
use Rattle.cert_make.proofs.places.Places.new.Given as goal

abbrev pub invariant-loop-i : goal.invariant-loop-i
invariant-loop-i g l = AreKept (g.C.Chains.map l.code) (g.C.Numbered.number l.code) l.addresses l.i l.places.items
