use Rattle.std.proofs.Common.{◌≡◌, true, false, leb, sym, ap, ◌∙◌, rules}
use Rattle.std.specs.List.Sorted.{IsPartitionPoint}
use Rattle.std.proofs.lemmas.List.Sorted.{IsPartitionPoint-from_clause, IsPartitionedBy-leb}
use Rattle.rv_machine.specs.declared.part.Part.{Part}
use Rattle.rv_machine.specs.Inner.Parts.{has_address}
use Rattle.rv_machine.proofs.PartsApart.{starts-rise, found-nothing, found-last, found-none_last}
use Rattle.rv_machine.proofs.regions.find_by_halves.Goals as goal
use Rattle.rv_machine.proofs.regions.find_by_halves.Goals.{After-partition_point-after}

-- the search splits the parts into those that start at the address or before, and the others
split : (c : After-partition_point-after) → IsPartitionPoint (λ (p : Part). leb p.start c.args.a ≡ true) (λ p. leb p.start c.args.a ≡ false) c.args.parts.now c.partition_point-after.result
split c =
    let parted = IsPartitionedBy-leb (λ (p : Part). p.start) c.args.parts.now c.args.a (starts-rise c.args.parts.now c.requires) in
    IsPartitionPoint-from_clause (λ (p : Part). leb p.start c.args.a) _ _ c.partition_point-after.ensures.partitioned parted (λ a r q k. search rules)

pub returns-then-after-eq0 : goal.returns-then-after-eq0
returns-then-after-eq0 c =
    sym (found-nothing c.args.parts.now c.requires c.args.a c.partition_point-after.result
    (split (goal.at.returns-then-after-eq0 c).After-partition_point-after) c.if-after-eq0.true)

pub returns-then-has : goal.returns-then-has
returns-then-has c =
    sym (found-last c.args.parts.now c.requires c.args.a c.partition_point-after.result
    (split (goal.at.returns-then-has c).After-partition_point-after) c.if-after-eq0.false c.partition_point-after.ensures.bound c.index-parts-after.result
    (ap (has_address c.args.a) (sym c.index-parts-after.is) ∙ sym c.has.ensures ∙ c.if-has.true))

pub returns-else-has : goal.returns-else-has
returns-else-has c =
    sym (found-none_last c.args.parts.now c.requires c.args.a c.partition_point-after.result
    (split (goal.at.returns-else-has c).After-partition_point-after) c.if-after-eq0.false c.partition_point-after.ensures.bound c.index-parts-after.result
    (ap (has_address c.args.a) (sym c.index-parts-after.is) ∙ sym c.has.ensures ∙ c.if-has.false))
