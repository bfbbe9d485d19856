use Rattle.code_view.proofs.Views.{none-fits}
use Rattle.test_graph.proofs.reached_graphs.block_count.Goals as goal

pub new-code-requires-clause-cuts : goal.new-code-requires-clause-cuts
new-code-requires-clause-cuts c = none-fits _ _ c.none-none.ensures
