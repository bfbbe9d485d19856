use Rattle.std.proofs.Common.{◌≡◌, true, false, leb, sym, ◌∙◌, rules}
use Rattle.std.specs.List.Sorted.{IsPartitionPoint}
use Rattle.std.proofs.lemmas.Bool.{cond-true, cond-false}
use Rattle.std.proofs.lemmas.List.Sorted.{IsPartitionPoint-from_clause, IsPartitionedBy-leb}
use Rattle.elf_image.specs.declared.section.Section.{Section}
use Rattle.elf_image.proofs.LaidOut.{find-none_before, find-last_before, laid_out-rises}
use Rattle.elf_image.proofs.address_index.find_before.Goals as goal
use Rattle.elf_image.proofs.address_index.find_before.Goals.{After-partition_point-after}

-- the search splits the sections into those that begin at the address or before, and the others
split : (c : After-partition_point-after) → IsPartitionPoint (λ (s : Section). leb s.address c.args.a ≡ true) (λ s. leb s.address c.args.a ≡ false) c.args.sections.now c.partition_point-after.result
split c =
    let parted = IsPartitionedBy-leb (λ (s : Section). s.address) c.args.sections.now c.args.a (laid_out-rises c.args.sections.now c.requires.laid_out) in
    IsPartitionPoint-from_clause (λ (s : Section). leb s.address c.args.a) _ _ c.partition_point-after.ensures.partitioned parted (λ a r q k. search rules)

pub returns-then-after-eq0 : goal.returns-then-after-eq0
returns-then-after-eq0 c =
    sym (find-none_before c.args.sections.now c.args.a c.args.n c.partition_point-after.result c.if-after-eq0.true
    (split (goal.at.returns-then-after-eq0 c).After-partition_point-after))

pub returns-then-holds_bytes : goal.returns-then-holds_bytes
returns-then-holds_bytes c =
    sym (find-last_before c.args.sections.now c.requires.laid_out c.args.a c.args.n c.partition_point-after.result c.requires.some
    c.if-after-eq0.false c.partition_point-after.ensures.bound (split (goal.at.returns-then-holds_bytes c).After-partition_point-after)
    ∙ cond-true _ _ _ (sym c.holds_bytes.ensures ∙ c.if-holds_bytes.true))

pub returns-else-holds_bytes : goal.returns-else-holds_bytes
returns-else-holds_bytes c =
    sym (find-last_before c.args.sections.now c.requires.laid_out c.args.a c.args.n c.partition_point-after.result c.requires.some
    c.if-after-eq0.false c.partition_point-after.ensures.bound (split (goal.at.returns-else-holds_bytes c).After-partition_point-after)
    ∙ cond-false _ _ _ (sym c.holds_bytes.ensures ∙ c.if-holds_bytes.false))
