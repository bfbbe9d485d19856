use Rattle.std.proofs.Common.{[], ◌∷◌, List, ℕ, length, sym, ap, ◌∙◌, arith}
use Rattle.elf_image.specs.Architecture.{names_from, all_named}
use Rattle.elf_image.specs.Inner.Architecture.{lower}
use Rattle.elf_image.proofs.Letters.{left-more, left-last, after_none_seen}
use Rattle.elf_image.proofs.names.named_from.Goals as goal

pub loop-first-init : goal.loop-first-init
loop-first-init c = (length c.args.part.now, [], omega arith, c.none-found.ensures.unsettled, after_none_seen _)

pub loop-first-preserved : goal.loop-first-preserved
loop-first-preserved c =
    left-more (names_from (length c.args.part.now) (lower c.args.part.now)) c.loop-first.rest.now c.in-Some.after.now c.after_version-rest.result.now c.in-Some.first.now
    c.loop-first.found c.named_by-in-Some.result c.join-found.result c.in-Some.ensures.cases.0 (sym c.is_start.ensures ∙ c.if-is_start.false) (sym c.if-not-is_ascii_alphabetic.ensures.value)
    c.after_version-rest.ensures.text c.after_version-rest.ensures.no_longer c.named_by-in-Some.ensures c.join-found.ensures c.loop-first.invariant

pub returns-then-is_start : goal.returns-then-is_start
returns-then-is_start c =
    left-last (names_from (length c.args.part.now) (lower c.args.part.now)) c.loop-first.rest.now c.in-Some.after.now c.in-Some.first.now
    c.loop-first.found c.named_by.result c.join.result c.in-Some.ensures.cases.0 (sym c.is_start.ensures ∙ c.if-is_start.true)
    (c.named_by.ensures ∙ ap (λ (name : List ℕ). all_named (name ∷ [])) c.without_version.ensures) c.join.ensures c.loop-first.invariant
