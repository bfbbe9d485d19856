use Rattle.std.proofs.Common.{◌≡◌, length, take}
use Rattle.cfg_model.specs.Graph.Listing.{Extends}
use Rattle.cfg_model.proofs.Graphs.Gaining.{Each}
use Rattle.outline_funcs.specs.Inner.Exits.{LeadsWithin}
use Rattle.outline_funcs.specs.Inner.Found.{AreStamped}
use Rattle.outline_funcs.proofs.bodies.add_targets.Given as goal

abbrev pub invariant-loop-edge : goal.invariant-loop-edge
invariant-loop-edge l = record {
  stamped : AreStamped l.stamp l.found.order.items l.found.stamps.items;
  adds : Extends l.initial.found.order.items l.found.order.items (Each (take l.edge-index l.edge-items) (LeadsWithin l.exits l.entry));
  as_many : length l.found.stamps.items ≡ length l.exits.blocks.now;
}
