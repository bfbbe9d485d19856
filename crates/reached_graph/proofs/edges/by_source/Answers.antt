use Rattle.std.proofs.Common.{List, subst}
use Rattle.std.specs.Prelude.{AllPairs}
use Rattle.cfg_model.specs.declared.graph.Edge.{Edge}
use Rattle.cfg_model.specs.Graph.Graph.{EdgeBefore}
use Rattle.reached_graph.proofs.edges.by_source.Goals as goal

pub returns-then-are_in_order : goal.returns-then-are_in_order
returns-then-are_in_order c = record {
  in_order = subst (λ (xs : List Edge). AllPairs EdgeBefore xs) c.deref.ensures.value (c.are_in_order.ensures c.if-are_in_order.true);
  sound = λ edge there. there;
  complete = λ edge there. there;
}

pub returns-else-are_in_order : goal.returns-else-are_in_order
returns-else-are_in_order c = record {
  in_order = c.edges_in_order.ensures.in_order;
  sound = λ edge there. (c.edges_in_order.ensures.same edge).0 there;
  complete = λ edge there. (c.edges_in_order.ensures.same edge).1 there;
}
