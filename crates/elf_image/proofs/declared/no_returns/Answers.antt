use Rattle.std.proofs.Common.{◌∙◌, get_or, sym, subst}
use Rattle.std.specs.List.{Contains}
use Rattle.std.proofs.lemmas.List.{get_or_default}
use Rattle.elf_image.proofs.InFile.{no_returns-in_file}
use Rattle.elf_image.proofs.LaidOut.{no_section}
use Rattle.elf_image.proofs.declared.no_returns.Goals as goal

pub push_no_returns-requires : goal.push_no_returns-requires
push_no_returns-requires c =
    let headers = c.args.headers.now in
    let i = c.loop-s.s-index in
    let s = get_or headers i no_section in
    no_returns-in_file c.args.bytes.now c.requires.in_file s
    (subst (λ hs. Contains hs s) c.requires.headers (i, c.loop-s-test.true, get_or_default headers i s no_section c.loop-s-test.true))
    (sym c.is_declaring_no_returns.ensures ∙ c.if-is_declaring_no_returns.true)
