use Rattle.std.proofs.Common.{sym, subst}
use Rattle.std.specs.List.{AllPairs}
use Rattle.cfg_model.specs.Graph.Graph.{EdgeBefore}
use Rattle.test_machine.proofs.traces.in_order.Goals as goal

pub returns : goal.returns
returns c = subst (AllPairs EdgeBefore) (sym c.from_vec.ensures) c.edges_in_order.ensures.in_order
