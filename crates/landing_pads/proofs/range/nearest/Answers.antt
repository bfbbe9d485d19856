use Rattle.std.proofs.Common.{◌≡◌, ◌+◌, ◌-◌, ◌∙◌, leb, sym, subst, arith, rules}
use Rattle.std.proofs.lemmas.List.Sorted.{IsPartitionPoint-from_clause, IsPartitionedBy-leb}
use Rattle.landing_pads.specs.declared.range.Range.{Range}
use Rattle.landing_pads.proofs.ByBegin.{IsPlaceTo, place-none, place-some}
use Rattle.landing_pads.proofs.range.nearest.Goals as goal
use Rattle.landing_pads.proofs.range.nearest.Goals.{After-partition_point-after}

-- the search splits the ranges into those that begin at the address or before, and the others
split : (c : After-partition_point-after) → IsPlaceTo c.args.ranges.now c.args.b c.partition_point-after.result
split c =
    let parted = IsPartitionedBy-leb (λ (r : Range). r.begin) c.args.ranges.now c.args.b c.requires in
    IsPartitionPoint-from_clause (λ (r : Range). leb r.begin c.args.b) _ _ c.partition_point-after.ensures.partitioned parted (λ a r q k. search rules)

pub returns-then-after-eq0 : goal.returns-then-after-eq0
returns-then-after-eq0 c =
    sym (place-none c.args.b c.args.ranges.now
    (subst (IsPlaceTo c.args.ranges.now c.args.b) c.if-after-eq0.true (split (goal.at.returns-then-after-eq0 c).After-partition_point-after)))

pub returns : goal.returns
returns c =
    let after = c.partition_point-after.result in
    let on : after ≡ after - 1 + 1 = omega (arith, c.if-after-eq0.false) in
    c.first_at.ensures
    ∙ sym (place-some c.args.b c.args.ranges.now (after - 1) _ c.requires
    (subst (IsPlaceTo c.args.ranges.now c.args.b) on (split (goal.at.returns c).After-partition_point-after))
    (omega (arith, c.if-after-eq0.false, c.partition_point-after.ensures.bound)))
