use Rattle.core_state.proofs.StatePlace.{next_waiter}
use Rattle.core_state.proofs.state_place.StatePlace.untold.Goals as goal

pub returns-clause-waiter : goal.returns-clause-waiter
returns-clause-waiter g c = next_waiter g.J.Job.map g.J.Job.seeds c.args.self.now.maps c.requires.kept c.args.k c.untold.result c.untold.ensures
