use Rattle.reached_graph.proofs.graph.graph_from.Goals as goal

pub graph_by-requires-clause-leaders : goal.graph_by-requires-clause-leaders
graph_by-requires-clause-leaders g c κs within = c.in_ok-leaders.ensures c.args.seeds.now c.requires.reached
