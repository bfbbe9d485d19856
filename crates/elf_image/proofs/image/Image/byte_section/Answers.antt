use Rattle.std.proofs.Common.{◌∙◌, sym, ap, subst, lit<}
use Rattle.std.specs.Prelude.{IfSome}
use Rattle.elf_image.specs.ReadOnly.{byte_section_of}
use Rattle.elf_image.specs.Inner.Found.{IsFoundAt}
use Rattle.elf_image.proofs.Accepted.{byte_section-found}
use Rattle.elf_image.proofs.image.Image.byte_section.Goals as goal

pub returns-clause-value : goal.returns-clause-value
unfolding byte_section_of
returns-clause-value c =
    c.find.ensures ∙ c.self.invariant.layout.read_only c.args.a 1 (lit< tt) ∙ ap (λ bytes. byte_section_of bytes c.args.a) c.self.view_is

pub returns-clause-found : goal.returns-clause-found
returns-clause-found c =
    let found = byte_section-found c.self.inside.bytes.items c.self.invariant.image c.args.a in
    let there : IfSome (byte_section_of c.args.self.now c.args.a) (IsFoundAt c.args.self.now c.args.a 1) = subst (λ bytes. IfSome (byte_section_of bytes c.args.a) (IsFoundAt bytes c.args.a 1)) c.self.view_is found in
    subst (λ o. IfSome o (IsFoundAt c.args.self.now c.args.a 1)) (sym (returns-clause-value c)) there
