use Rattle.std.proofs.Common.{◌*◌, ◌∙◌, ap}
use Rattle.elf_image.specs.Symbols as spec
use Rattle.elf_symbols.proofs.Parts.{symbol_of_part}
use Rattle.elf_symbols.proofs.symbol.read_symbol.Goals as goal

pub returns : goal.returns
returns c =
    c.symbol_at.ensures ∙ ap (λ part. spec.symbol_at part (24 * c.args.i)) c.section_bytes.ensures
    ∙ symbol_of_part c.args.image.now c.args.table.now (24 * c.args.i) c.requires.within
