use Rattle.std.proofs.Common.{◌≡◌}
use Rattle.std.specs.Prelude.{All}
use Rattle.std.specs.List.{flat_map}
use Rattle.parallel.specs.Lists.{AreMade, all_in, made_in}
use Rattle.report_crew.proofs.sharing.if_made.Given as goal

-- the texts so far were made
abbrev pub invariant-loop-text : goal.invariant-loop-text
invariant-loop-text l = record {
  made : All AreMade l.yielded;
  texts : all_in l.made.items ≡ flat_map made_in l.yielded;
}
