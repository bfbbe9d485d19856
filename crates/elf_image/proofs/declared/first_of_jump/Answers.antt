use Rattle.std.proofs.Common.{◌∙◌, ltb, Some, None, sym, rules}
use Rattle.std.proofs.lemmas.Bool.{cond-true, cond-false, eq-eqb, ne_eqb}
use Rattle.std.proofs.lemmas.List.Sorted.{IsPartitionPoint-from_clause, IsPartitionedBy-ltb}
use Rattle.elf_image.specs.declared.declared.DeclaredTable.{DeclaredTable}
use Rattle.elf_image.proofs.ByJump.{IsPlace, jumps_at, find-first}
use Rattle.elf_image.proofs.declared.first_of_jump.Goals as goal
use Rattle.elf_image.proofs.declared.first_of_jump.Goals.{After-partition_point-first}

-- the search splits the tables into those of lower jumps, and the others
place : (c : After-partition_point-first) → IsPlace c.args.tables.now c.args.j c.partition_point-first.result
place c =
    let parted = IsPartitionedBy-ltb (λ (t : DeclaredTable). t.jump) c.args.tables.now c.args.j c.requires in
    IsPartitionPoint-from_clause (λ (t : DeclaredTable). ltb t.jump c.args.j) _ _ c.partition_point-first.ensures.partitioned parted (λ a r q k. search rules)

pub returns-in_err-table : goal.returns-in_err-table
returns-in_err-table c =
    c.from_residual.ensures
    ∙ sym (find-first c.args.tables.now c.args.j c.partition_point-first.result None c.requires (place (goal.at.returns-in_err-table c).After-partition_point-first) c.in_err-table.ensures.lookup)

pub returns-then-table-j : goal.returns-then-table-j
returns-then-table-j c =
    let found = find-first c.args.tables.now c.args.j c.partition_point-first.result (Some c.in_ok-table.table) c.requires (place (goal.at.returns-then-table-j c).After-partition_point-first) c.in_ok-table.ensures.lookup in
    sym (found ∙ cond-true (jumps_at c.args.j c.in_ok-table.table.now) (Some c.in_ok-table.table.now) None (eq-eqb c.in_ok-table.table.now.jump c.args.j c.if-table-j.true))

pub returns-else-table-j : goal.returns-else-table-j
returns-else-table-j c =
    let found = find-first c.args.tables.now c.args.j c.partition_point-first.result (Some c.in_ok-table.table) c.requires (place (goal.at.returns-else-table-j c).After-partition_point-first) c.in_ok-table.ensures.lookup in
    sym (found ∙ cond-false (jumps_at c.args.j c.in_ok-table.table.now) (Some c.in_ok-table.table.now) None (ne_eqb c.in_ok-table.table.now.jump c.args.j c.if-table-j.false))
