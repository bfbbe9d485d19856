use Rattle.core_state.proofs.StatePlace.{near_anchored}
use Rattle.core_state.proofs.state_place.StatePlace.near.Goals as goal

pub returns-clause-anchored : goal.returns-clause-anchored
returns-clause-anchored g c = near_anchored g.J.Job.map g.J.Job.seeds c.args.self.now.maps c.requires.kept c.args.k c.near.result c.near.ensures
