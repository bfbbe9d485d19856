use Rattle.std.proofs.Common.{◌≡◌, ◌∙◌, ◌-◌, ◌/◌, ap, sym, subst, get_or, leb, rules, arith}
use Rattle.std.specs.Prelude.{max}
use Rattle.std.proofs.Math.Nat.{max_comm}
use Rattle.cfg_model.specs.Program.Cuts.{kept_before}
use Rattle.std.proofs.lemmas.List.Sorted.{IsPartitionPoint-from_clause, IsPartitionedBy-leb}
use Rattle.table_cuts.specs.Extents.{extent_of}
use Rattle.table_cuts.specs.Inner.{IsCutBy}
use Rattle.table_cuts.proofs.Least.{IsSplit, split, none_above, above_start, cut_at, none_cut}
use Rattle.table_cuts.proofs.bases.cut_by.Goals as goal
use Rattle.table_cuts.proofs.bases.cut_by.Goals.{After-partition_point-after, After-max-kept}

-- the search splits the bases into those up to the start of the table, and the others
parted : (c : After-partition_point-after) → IsSplit c.args.bases.now c.args.table.now.base c.partition_point-after.result
parted c =
    split c.args.bases.now c.args.table.now.base c.partition_point-after.result c.requires.sorted
    (IsPartitionPoint-from_clause (λ b. leb b c.args.table.now.base) _ _ c.partition_point-after.ensures.partitioned
    (IsPartitionedBy-leb (λ b. b) c.args.bases.now c.args.table.now.base c.requires.sorted) (λ a r q k. search rules))

pub returns-then-after-bases : goal.returns-then-after-bases
returns-then-after-bases c =
    none_above c.args.bases.now (extent_of c.args.table.now) c.partition_point-after.result
    (parted (goal.at.returns-then-after-bases c).After-partition_point-after) c.if-after-bases.true

pub overflow_sub-bases : goal.overflow_sub-bases
overflow_sub-bases c =
    let above = above_start c.args.bases.now (extent_of c.args.table.now) c.partition_point-after.result
    (parted (goal.at.overflow_sub-bases c).After-partition_point-after) 0 (omega (arith, c.partition_point-after.ensures.bound)) in
    omega (arith, above)

-- what is kept lies in front of the first base above the start
kept-is : (c : After-max-kept) → c.max-kept.result ≡ kept_before (extent_of c.args.table.now) (get_or c.args.bases.now c.partition_point-after.result 0)
kept-is c =
    let distance = get_or c.args.bases.now c.partition_point-after.result 0 - c.args.table.now.base in
    c.max-kept.ensures ∙ ap (λ w. max (distance / w) 1) c.from.ensures ∙ max_comm (distance / c.args.table.now.width) 1

pub returns-then-kept-from : goal.returns-then-kept-from
returns-then-kept-from c =
    let table = extent_of c.args.table.now in
    let is = kept-is (goal.at.returns-then-kept-from c).After-max-kept in
    subst (IsCutBy c.args.bases.now table) (sym is)
    (cut_at c.args.bases.now table c.partition_point-after.result
    (parted (goal.at.returns-then-kept-from c).After-partition_point-after) 0 (omega (arith, c.partition_point-after.ensures.bound))
    c.requires.width (omega (arith, is, c.from-2.ensures, c.if-kept-from.true)))

pub returns-else-kept-from : goal.returns-else-kept-from
returns-else-kept-from c =
    let table = extent_of c.args.table.now in
    none_cut c.args.bases.now table c.partition_point-after.result
    (parted (goal.at.returns-else-kept-from c).After-partition_point-after) 0 (omega (arith, c.partition_point-after.ensures.bound))
    c.requires.width (omega (arith, kept-is (goal.at.returns-else-kept-from c).After-max-kept, c.from-2.ensures, c.if-kept-from.false))
