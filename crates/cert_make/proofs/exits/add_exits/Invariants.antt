use Rattle.std.proofs.Common.{take}
use Rattle.std.specs.Prelude.{Contains}
use Rattle.cfg_model.specs.Graph.Listing.{Gains}
use Rattle.cert_make.specs.Inner.Ends.{IsExitOf}
use Rattle.cert_make.proofs.exits.add_exits.Given as goal

-- the ways to the addresses so far
abbrev pub invariant-loop-a : goal.invariant-loop-a
invariant-loop-a g l = Gains l.fn.exits.items l.exits.items (IsExitOf l.places.addresses.now (Contains (take l.a-index l.addresses)) l.end)
