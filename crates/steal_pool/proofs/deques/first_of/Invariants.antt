use Rattle.steal_pool.proofs.Rounds.{SoFar}
use Rattle.steal_pool.proofs.deques.first_of.Given as goal

-- nothing but misses so far
abbrev pub invariant-loop-step : goal.invariant-loop-step
invariant-loop-step g l =
    let E = g.E.Deques in
    SoFar E.try_made E.size E.empties E.beaten E.got l.own l.count l.initial.ends l.ends l.step l.beaten
