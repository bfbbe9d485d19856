use Rattle.std.proofs.Common.{◌≡◌, ◌≤◌, true, false, length, rules}
use Rattle.std.specs.List.Sorted.{IsPartitionPoint}
use Rattle.std.proofs.lemmas.List.Sorted.{IsPartitionPoint-from_clause}
use Rattle.edge_cover.proofs.Found.{comes_before, partitioned, found_edge, found_other, found_end}
use Rattle.edge_cover.proofs.search.first_edge.Goals as goal
use Rattle.edge_cover.proofs.search.first_edge.Goals.{After-partition_point-first}

split : (c : After-partition_point-first) → IsPartitionPoint (λ e. comes_before c.args.from c.args.to e ≡ true) (λ e. comes_before c.args.from c.args.to e ≡ false) c.args.edges.now c.partition_point-first.result
split c =
    IsPartitionPoint-from_clause (comes_before c.args.from c.args.to) _ _ c.partition_point-first.ensures.partitioned
    (partitioned c.args.edges.now c.requires c.args.from c.args.to) (λ a r q k. search rules)

pub returns-in-Some : goal.returns-in-Some
returns-in-Some c =
    let k = (c.in-Some.ensures {u = tt}).lookup in
    let s = split (goal.at.returns-in-Some c).After-partition_point-first in
    found_edge c.args.edges.now c.requires c.args.from c.args.to c.partition_point-first.result c.partition_point-first.ensures.bound s c.in-Some.edge.now k.3.0 k.3.1 c.if-edge-from.true c.if-edge-to.true

pub returns-in_default : goal.returns-in_default
returns-in_default c =
    let k = (c.in-Some.ensures {u = tt}).lookup in
    let s = split (goal.at.returns-in_default c).After-partition_point-first in
    found_other c.args.edges.now c.requires c.args.from c.args.to c.partition_point-first.result c.partition_point-first.ensures.bound s c.in-Some.edge.now k.3.0 k.3.1 (λ is. c.if-edge-to.false is.1)

pub returns-in_default-2 : goal.returns-in_default-2
returns-in_default-2 c =
    let k = (c.in-Some.ensures {u = tt}).lookup in
    let s = split (goal.at.returns-in_default-2 c).After-partition_point-first in
    found_other c.args.edges.now c.requires c.args.from c.args.to c.partition_point-first.result c.partition_point-first.ensures.bound s c.in-Some.edge.now k.3.0 k.3.1 (λ is. c.if-edge-from.false is.0)

pub returns-in_default-3 : goal.returns-in_default-3
returns-in_default-3 c =
    let s = split (goal.at.returns-in_default-3 c).After-partition_point-first in
    let past : length c.args.edges.now ≤ c.partition_point-first.result = rw c.in_default.is at c.get.ensures.lookup.3 in
    found_end c.args.edges.now c.requires c.args.from c.args.to c.partition_point-first.result c.partition_point-first.ensures.bound s past
