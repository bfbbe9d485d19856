use Rattle.std.proofs.Common.{◌∙◌, sym, ap}
use Rattle.std.specs.Option.{option_copied}
use Rattle.std.specs.List.{find}
use Rattle.elf_image.specs.Attributes.{is_attributes}
use Rattle.elf_image.proofs.InFile.{attributes-in_file}
use Rattle.elf_image.proofs.attributes.architecture.Goals as goal

pub section_bytes-requires : goal.section_bytes-requires
section_bytes-requires c =
    attributes-in_file c.args.bytes.now c.requires.in_file c.in_ok-s.s.now
    (ap (λ hs. find is_attributes hs) (sym c.requires.headers) ∙ sym c.attributes_section.ensures ∙ ap option_copied c.in_ok-s.was)
