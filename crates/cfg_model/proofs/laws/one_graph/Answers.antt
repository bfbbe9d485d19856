use Rattle.cfg_model.proofs.Graphs.OneGraph.{one_graph, one_outline, function_unique}
use Rattle.cfg_model.proofs.Graphs.OneBlock.{block_unique}
use Rattle.cfg_model.proofs.laws.one_graph.Goals as goal

pub returns : goal.returns
returns c = record { whole = one_graph; outline = one_outline; block = block_unique; function = function_unique }
