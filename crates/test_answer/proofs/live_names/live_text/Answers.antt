use Rattle.cfg_run.proofs.Listed.{bodies-rise, for-all, in-order}
use Rattle.test_answer.proofs.live_names.live_text.Goals as goal

pub graph_lives-requires-clause-order : goal.graph_lives-requires-clause-order
graph_lives-requires-clause-order c = in-order c.in_ok-file.file.bytes c.graph-graph.result.now c.graph-graph.ensures.of_file

pub graph_lives-requires-clause-bodies : goal.graph_lives-requires-clause-bodies
graph_lives-requires-clause-bodies c = bodies-rise c.in_ok-file.file.bytes c.graph-graph.result.now c.graph-graph.ensures.of_file

pub of_lives-requires : goal.of_lives-requires
of_lives-requires c =
    let graph = c.graph-graph.result.now in
    record { lives = for-all c.image-image.result.now graph.blocks graph.edges graph.functions c.in_ok-lives.lives c.in_ok-lives.ensures }
