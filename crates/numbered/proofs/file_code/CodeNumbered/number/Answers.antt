use Rattle.std.proofs.Common.{◌≡◌, true, sym, ap, ◌∙◌, subst}
use Rattle.elf_image.specs.Code.{is_code}
use Rattle.chain_index.specs.Numbers.{codes_below}
use Rattle.code_view.specs.Cuts.{cut_of}
use Rattle.code_view.proofs.Lawful.{code_of}
use Rattle.numbered.proofs.file_code.CodeNumbered.number.Goals as goal

pub number-requires : goal.number-requires
number-requires c = subst (λ b. is_code b c.args.a ≡ true) (sym c.index.ensures.index) (code_of c.args.self.now.bytes (cut_of c.args.self.now.cuts) c.args.a c.requires)

pub returns : goal.returns
returns c = c.number.ensures.number ∙ ap (λ b. codes_below b c.args.a) c.index.ensures.index
