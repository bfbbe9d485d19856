use Rattle.std.proofs.Common.{◌≡◌, length}
use Rattle.std.specs.Fork.{GivesEach}
use Rattle.parallel.proofs.drawn.all_results.Given as goal

-- the results at the places so far
abbrev pub invariant-loop-place : goal.invariant-loop-place
invariant-loop-place g l = record {
  len : length l.results.items ≡ length l.yielded;
  each : GivesEach g.F.Fn l.f (length l.yielded) l.results.items;
}
