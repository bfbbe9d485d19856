use Rattle.std.proofs.Common.{◌≡◌, length, None}
use Rattle.std.specs.List.{All}
use Rattle.parallel.proofs.drawn.no_results.Given as goal

-- the places so far are empty
abbrev pub invariant-loop : goal.invariant-loop
invariant-loop g l = record {
  len : length l.places.items ≡ l.counter;
  empty : All (λ place. place ≡ None) l.places.items;
}
