use Rattle.steal_pool.proofs.Rules.{nothing_twice, first_first}
use Rattle.steal_pool.proofs.laws.names_leave_once_in_order.Goals as goal

pub returns-clause-once : goal.returns-clause-once
returns-clause-once c = nothing_twice

pub returns-clause-order : goal.returns-clause-order
returns-clause-order c = first_first
