use Rattle.std.specs.List.{All}
use Rattle.parallel.specs.Inner.Drawn.{IsResultBelow}
use Rattle.parallel.proofs.drawn.drawn.Given as goal

-- what is made so far are results at numbers below the count
abbrev pub invariant-loop : goal.invariant-loop
invariant-loop g l = All (IsResultBelow g.F.Fn l.f l.count) l.made.items
