use Rattle.std.proofs.Common.{ltb, rules, arith}
use Rattle.std.proofs.lemmas.Bool.{ltb-true, ltb-false}
use Rattle.std.proofs.lemmas.List.Sorted.{IsPartitionPoint-from_clause, IsPartitionedBy-ltb}
use Rattle.cfg_model.specs.declared.graph.Edge.{Edge}
use Rattle.live_regs.proofs.search.first_near.Goals as goal

pub returns-else-is_first : goal.returns-else-is_first
returns-else-is_first c =
    let parts = IsPartitionPoint-from_clause (λ (e : Edge). ltb e.from c.args.a) _ _ c.partition_point.ensures.partitioned (IsPartitionedBy-ltb (λ (e : Edge). e.from) c.args.edges.now c.args.a c.requires) (λ a r q k. search rules) in
    record {
      within = c.partition_point.ensures.bound;
      before = λ k d lt. ltb-true _ _ (parts.0 k d (omega arith) lt);
      behind = λ k d le lt. ltb-false _ _ (parts.1 k d le lt);
    }
