use Rattle.std.proofs.Common.{[]}
use Rattle.cfg_model.specs.Graph.Listing.{Gains}
use Rattle.cert_make.proofs.Exiting.{IsEarly}
use Rattle.cert_make.proofs.exits.exits_of.Given as goal

-- the ways from the ends so far
abbrev pub invariant-loop-i : goal.invariant-loop-i
invariant-loop-i g l = Gains [] l.exits.items (IsEarly (g.C.Chains.map l.code) l.places.addresses.now l.terms l.i)
