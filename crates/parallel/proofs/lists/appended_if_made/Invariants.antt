use Rattle.std.proofs.Common.{◌≡◌, ◌++◌}
use Rattle.std.specs.List.{All, flat_map}
use Rattle.parallel.specs.Lists.{AreMade, made_in}
use Rattle.parallel.proofs.lists.appended_if_made.Given as goal

-- all lists so far were made, and are appended
abbrev pub invariant-loop-list : goal.invariant-loop-list
invariant-loop-list g l = record {
  made : All AreMade l.yielded;
  appended : l.all.items ≡ l.fn.all.items ++ flat_map made_in l.yielded;
}
