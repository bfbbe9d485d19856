use Rattle.std.proofs.Common.{◌∙◌, ltb, Some, None, sym, rules}
use Rattle.std.proofs.lemmas.Bool.{cond-true, cond-false, eq-eqb, ne_eqb}
use Rattle.std.proofs.lemmas.List.Sorted.{IsPartitionPoint-from_clause, IsPartitionedBy-ltb}
use Rattle.landing_pads.specs.declared.range.Range.{Range}
use Rattle.landing_pads.proofs.ByBegin.{IsPlace, begins_at, find-first}
use Rattle.landing_pads.proofs.range.first_at.Goals as goal
use Rattle.landing_pads.proofs.range.first_at.Goals.{After-partition_point-first}

-- the search splits the ranges into those with lower beginnings, and the others
place : (c : After-partition_point-first) → IsPlace c.args.ranges.now c.args.begin c.partition_point-first.result
place c =
    let parted = IsPartitionedBy-ltb (λ (r : Range). r.begin) c.args.ranges.now c.args.begin c.requires in
    IsPartitionPoint-from_clause (λ (r : Range). ltb r.begin c.args.begin) _ _ c.partition_point-first.ensures.partitioned parted (λ a r q k. search rules)

pub returns-in_err-range : goal.returns-in_err-range
returns-in_err-range c =
    c.from_residual.ensures
    ∙ sym (find-first c.args.ranges.now c.args.begin c.partition_point-first.result None c.requires (place (goal.at.returns-in_err-range c).After-partition_point-first) c.in_err-range.ensures.lookup)

pub returns-then-range-begin : goal.returns-then-range-begin
returns-then-range-begin c =
    let found = find-first c.args.ranges.now c.args.begin c.partition_point-first.result (Some c.in_ok-range.range) c.requires (place (goal.at.returns-then-range-begin c).After-partition_point-first) c.in_ok-range.ensures.lookup in
    sym (found ∙ cond-true (begins_at c.args.begin c.in_ok-range.range.now) (Some c.in_ok-range.range.now) None (eq-eqb c.in_ok-range.range.now.begin c.args.begin c.if-range-begin.true))

pub returns-else-range-begin : goal.returns-else-range-begin
returns-else-range-begin c =
    let found = find-first c.args.ranges.now c.args.begin c.partition_point-first.result (Some c.in_ok-range.range) c.requires (place (goal.at.returns-else-range-begin c).After-partition_point-first) c.in_ok-range.ensures.lookup in
    sym (found ∙ cond-false (begins_at c.args.begin c.in_ok-range.range.now) (Some c.in_ok-range.range.now) None (ne_eqb c.in_ok-range.range.now.begin c.args.begin c.if-range-begin.false))
