use Rattle.cfg_model.specs.Program.Chain.{OnChain}
use Rattle.test_graph.proofs.work_left.near_starts_are_found.Goals as goal

pub arrive-requires-clause-arriving : goal.arrive-requires-clause-arriving
arrive-requires-clause-arriving g c κs = OnChain.here
