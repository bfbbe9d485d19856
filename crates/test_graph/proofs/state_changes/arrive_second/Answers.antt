use Rattle.test_graph.proofs.RowChains.{from_2, near_0}
use Rattle.test_graph.proofs.state_changes.arrive_second.Goals as goal

pub arrive-requires-clause-arriving : goal.arrive-requires-clause-arriving
arrive-requires-clause-arriving g c κs = from_2

pub arrive-requires-clause-near : goal.arrive-requires-clause-near
arrive-requires-clause-near g c κs = near_0 _ c.assert_near.ensures
