use Rattle.std.proofs.Common.{Some, sym, ap, ◌∙◌}
use Rattle.std.proofs.lemmas.Bool.{ltb-true}
use Rattle.elf_image.specs.Sections.{holds_bytes}
use Rattle.elf_image.proofs.LaidOut.{find-held}
use Rattle.elf_image.proofs.address_index.find_laid_out.Goals as goal

pub returns-in-Some : goal.returns-in-Some
returns-in-Some c =
    let at = c.in-Some.ensures.lookup in
    ap Some at.1
    ∙ sym (find-held c.args.sections.now c.requires.laid_out c.args.a c.args.n c.args.likely c.in-Some.s.now c.requires.some (ltb-true _ _ (sym at.0))
    (ap (holds_bytes c.args.a c.args.n) (sym at.1) ∙ sym c.holds_bytes.ensures ∙ c.if-holds_bytes.true))
