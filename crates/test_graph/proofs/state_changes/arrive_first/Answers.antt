use Rattle.test_graph.proofs.RowChains.{from_0, near_0}
use Rattle.test_graph.proofs.state_changes.arrive_first.Goals as goal

pub arrive-requires-clause-arriving : goal.arrive-requires-clause-arriving
arrive-requires-clause-arriving g c κs = from_0

pub arrive-requires-2-clause-arriving : goal.arrive-requires-2-clause-arriving
arrive-requires-2-clause-arriving g c κs = from_0

pub arrive-requires-2-clause-near : goal.arrive-requires-2-clause-near
arrive-requires-2-clause-near g c κs = near_0 _ c.assert_near.ensures
