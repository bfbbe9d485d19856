use Rattle.std.proofs.Common.{◌≡◌, ◌-◌, ◌*◌, ◌≤◌, is_some}
use Rattle.jump_table.specs.Section.{straight_run}
use Rattle.jump_table.proofs.run.reaches.Given as goal

-- the run from the beginning on reaches the jump where the run from here on does with what is left
abbrev pub invariant-loop : goal.invariant-loop
invariant-loop l = record {
  nearer : l.left ≤ l.parcels;
  same : is_some (straight_run l.way.image.now l.way.start l.way.jump 16 (l.way.jump - 2 * l.parcels))
      ≡ is_some (straight_run l.way.image.now l.way.start l.way.jump (16 - l.counter) (l.way.jump - 2 * l.left));
}
