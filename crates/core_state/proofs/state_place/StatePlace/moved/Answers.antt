use Rattle.core_state.proofs.StatePlace.{moved_end, moved_anchored}
use Rattle.core_state.proofs.state_place.StatePlace.moved.Goals as goal

pub returns-clause-end : goal.returns-clause-end
returns-clause-end g c = moved_end g.J.Job.map g.J.Job.seeds c.args.self.now.maps c.requires.kept c.args.k c.moved.result c.moved.ensures

pub returns-clause-anchored : goal.returns-clause-anchored
returns-clause-anchored g c = moved_anchored g.J.Job.map g.J.Job.seeds c.args.self.now.maps c.requires.kept c.args.k c.moved.result c.moved.ensures
