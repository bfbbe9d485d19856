use Rattle.steal_pool.specs.Taking.{CountsLast}
use Rattle.steal_pool.proofs.Takings.{Untouched}
use Rattle.steal_pool.proofs.hand.Hand.take.Given as goal

-- nothing was put or taken yet
abbrev pub invariant-loop : goal.invariant-loop
invariant-loop g l =
    Untouched l.initial.self l.self × CountsLast l.initial.self l.self
    × (goal.iterator-loop g).can_next l.iterator' × (goal.iterator-loop g).is_finite l.iterator'
