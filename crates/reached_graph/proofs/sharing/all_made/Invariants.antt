use Rattle.std.proofs.Common.{◌≡◌, Ok, map}
use Rattle.reached_graph.proofs.sharing.all_made.Given as goal

abbrev pub invariant-loop-answer : goal.invariant-loop-answer
invariant-loop-answer l = l.yielded ≡ map Ok l.made.items
