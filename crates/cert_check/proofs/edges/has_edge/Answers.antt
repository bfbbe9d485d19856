use Rattle.std.proofs.Common.{rules}
use Rattle.std.proofs.lemmas.List.Sorted.{IsPartitionPoint-from_clause}
use Rattle.cert_check.specs.Inner.Ways.{comes_before}
use Rattle.cert_check.proofs.Searched.{found_at, none_at, parted}
use Rattle.cert_check.proofs.edges.has_edge.Goals as goal

pub returns-then-i-edges : goal.returns-then-i-edges
returns-then-i-edges c =
    let edges = c.args.edges.now in
    let point = IsPartitionPoint-from_clause (comes_before c.args.from c.args.to) edges c.partition_point-i.result c.partition_point-i.ensures.partitioned
    (parted edges c.requires c.args.from c.args.to) (λ a r f called. search rules) in
    found_at edges c.requires c.args.from c.args.to c.partition_point-i.result _ c.joins.result c.if-i-edges.true point c.joins.ensures

pub returns-else-i-edges : goal.returns-else-i-edges
returns-else-i-edges c =
    let edges = c.args.edges.now in
    let point = IsPartitionPoint-from_clause (comes_before c.args.from c.args.to) edges c.partition_point-i.result c.partition_point-i.ensures.partitioned
    (parted edges c.requires c.args.from c.args.to) (λ a r f called. search rules) in
    none_at edges c.requires c.args.from c.args.to c.partition_point-i.result c.if-i-edges.false point
