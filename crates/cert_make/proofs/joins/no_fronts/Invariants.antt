use Rattle.std.proofs.Common.{◌≡◌, [], length}
use Rattle.std.specs.Prelude.{All}
use Rattle.cert_make.proofs.joins.no_fronts.Given as goal

abbrev pub invariant-loop : goal.invariant-loop
invariant-loop l = record {
  many : length l.fronts.items ≡ l.counter;
  empty : All (λ front. front.items ≡ []) l.fronts.items;
}
