use Rattle.std.proofs.Common.{◌∙◌, sym, ap, ap₂, drop}
use Rattle.std.specs.Prelude.{nat_eq}
use Rattle.std.specs.List.{starts_with}
use Rattle.elf_image.specs.Sections.{name_begins, section_names}
use Rattle.elf_image.proofs.SectionNames.{drop-min, take-left}
use Rattle.elf_image.proofs.image.Image.name_begins.Goals as goal

pub returns : goal.returns
unfolding name_begins
returns c =
    c.starts_with.ensures.value
    ∙ ap (λ xs. starts_with nat_eq xs c.args.text.now)
    (take-left c.min-at.result c.section_names-names.result.now
    ∙ ap (λ n. drop n c.section_names-names.result.now) c.min-at.ensures
    ∙ drop-min c.args.s.now.name c.section_names-names.result.now ∙ ap (drop c.args.s.now.name) c.section_names-names.ensures)
