use Rattle.cfg_model.specs.Program.Chain.{OnChain}
use Rattle.test_graph.proofs.state_changes.move_first.Goals as goal

pub arrive-requires-clause-arriving : goal.arrive-requires-clause-arriving
arrive-requires-clause-arriving g c κs = OnChain.here
