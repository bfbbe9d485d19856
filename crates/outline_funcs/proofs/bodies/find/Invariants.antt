use Rattle.std.proofs.Common.{◌≡◌, ◌-◌, ◌^◌, length}
use Rattle.outline_funcs.specs.Inner.Found.{AreStamped}
use Rattle.outline_funcs.proofs.Following.{IsBodySoFar}
use Rattle.outline_funcs.proofs.bodies.find.Given as goal

abbrev pub invariant-loop-i : goal.invariant-loop-i
invariant-loop-i l = record {
  stamped : AreStamped l.stamp l.found.order.items l.found.stamps.items;
  so_far : IsBodySoFar l.exits l.entry l.found.order.items l.i;
  as_many : length l.found.stamps.items ≡ length l.exits.blocks.now;
}

abbrev pub decreases-loop-i : goal.decreases-loop-i
decreases-loop-i l = 2 ^ 64 - l.i
