use Rattle.outline_funcs.proofs.Together.{graph_of_parts}
use Rattle.outline_funcs.proofs.tails.mark_tails.Goals as goal

pub returns-clause-graph : goal.returns-clause-graph
returns-clause-graph c = graph_of_parts c.args.functions.now c.args.edges.now c.mark_all.new.edges (rw c.as_slice.ensures at c.mark_all.ensures)
