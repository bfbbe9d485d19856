use Rattle.std.proofs.Common.{◌∙◌, ap, sym}
use Rattle.std.specs.Option.{option_copied}
use Rattle.elf_image.proofs.OneSection.{section_start-same}
use Rattle.elf_image.proofs.image.Image.section_start.Goals as goal

pub returns-clause-same : goal.returns-clause-same
returns-clause-same c =
    section_start-same c.args.self.now c.code_section.ensures.image c.args.a c.in_ok-s.s.now (sym c.code_section.ensures.value ∙ ap option_copied c.in_ok-s.was)
