use Rattle.std.proofs.lemmas.List.Filters.{dedup_is}
use Rattle.cfg_model.specs.contracts.graph.EdgePartialEq.TheImpl.{eq-value}
use Rattle.cfg_model.proofs.Graphs.EdgeOrder.{edges_in_order, same_edges}
use Rattle.cfg_model.proofs.outline.edges_in_order.Goals as goal

pub returns : goal.returns
returns c =
    let is = dedup_is eq-value.it c.sort_unstable.new.self.items c.dedup.new.self.items c.dedup.ensures.filtered in
    record {
      in_order = edges_in_order c.sort_unstable.new.self.items c.dedup.new.self.items c.sort_unstable.ensures.sorted is;
      same = same_edges c.args.edges.items c.sort_unstable.new.self.items c.dedup.new.self.items c.sort_unstable.ensures.permutation is;
    }
