use Rattle.code_view.specs.FileCode.{program_of}
use Rattle.code_view.proofs.Views.{none-fits}
use Rattle.live_crew.proofs.Outlines.{order_of_graph, bodies_of_graph_rise}
use Rattle.test_live.proofs.all_calls.lives_of_file.Goals as goal

pub new-code-requires-clause-cuts : goal.new-code-requires-clause-cuts
new-code-requires-clause-cuts g c = none-fits _ _ c.none-none.ensures

pub one_by_one-requires : goal.one_by_one-requires
one_by_one-requires g c =
    let seeds = c.addresses-seeds.result.now in
    (seeds, c.in_ok-outline.ensures seeds c.in_ok-reached.ensures, c.in_ok-graph.ensures.functions.sound)

pub graph_gives-requires-clause-order : goal.graph_gives-requires-clause-order
graph_gives-requires-clause-order g c κs within =
    order_of_graph (program_of c.new-code.result) c.addresses-seeds.result.now _ c.in_ok-graph.graph c.in_ok-graph.ensures

pub graph_gives-requires-clause-bodies : goal.graph_gives-requires-clause-bodies
graph_gives-requires-clause-bodies g c κs within =
    bodies_of_graph_rise (program_of c.new-code.result) c.addresses-seeds.result.now _ c.in_ok-graph.graph c.in_ok-graph.ensures
