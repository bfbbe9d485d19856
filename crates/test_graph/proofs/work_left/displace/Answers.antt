use Rattle.test_graph.proofs.RowChains.{near_on}
use Rattle.test_graph.proofs.work_left.displace.Goals as goal

pub arrive-requires-2-clause-near : goal.arrive-requires-2-clause-near
arrive-requires-2-clause-near g c κs = near_on _ c.args.k c.args.first c.requires.first c.assert_near.ensures
