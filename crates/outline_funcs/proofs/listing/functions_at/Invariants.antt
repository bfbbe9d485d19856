use Rattle.std.proofs.Common.{◌≡◌, ◌≤◌, length, take}
use Rattle.std.specs.List.{All, AllZip}
use Rattle.outline_funcs.specs.Inner.Bodies.{IsFunctionBy}
use Rattle.outline_funcs.proofs.listing.functions_at.Given as goal

abbrev pub invariant-loop-i : goal.invariant-loop-i
invariant-loop-i g l = record {
  as_many : length l.found.stamps.items ≡ length l.exits.blocks.now;
  most : All (λ s. s ≤ l.i) l.found.stamps.items;
  each : AllZip (IsFunctionBy (goal.F-post g l.returns) l.exits) (take l.i l.entries) l.functions.items;
}
