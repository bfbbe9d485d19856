use Rattle.std.proofs.Common.{◌∙◌, sym, ap, subst, cond, None, lit<}
use Rattle.std.specs.Prelude.{IfSome}
use Rattle.elf_image.specs.Code.{code_section_of, is_even}
use Rattle.elf_image.specs.Faults.{IsImage}
use Rattle.elf_image.specs.Inner.Found.{IsFoundAt}
use Rattle.elf_image.proofs.Accepted.{code_section-found}
use Rattle.elf_image.proofs.image.Image.code_section.Goals as goal

pub returns-clause-value : goal.returns-clause-value
unfolding code_section_of
returns-clause-value c =
    c.code_section.ensures ∙ ap (λ o. cond (is_even c.args.a) o None) (c.self.invariant.layout.code c.args.a 2 (lit< tt))
    ∙ ap (λ bytes. code_section_of bytes c.args.a) c.self.view_is

pub returns-clause-found : goal.returns-clause-found
returns-clause-found c =
    let found = code_section-found c.self.inside.bytes.items c.self.invariant.image c.args.a in
    let there : IfSome (code_section_of c.args.self.now c.args.a) (IsFoundAt c.args.self.now c.args.a 2) = subst (λ bytes. IfSome (code_section_of bytes c.args.a) (IsFoundAt bytes c.args.a 2)) c.self.view_is found in
    subst (λ o. IfSome o (IsFoundAt c.args.self.now c.args.a 2)) (sym (returns-clause-value c)) there

pub returns-clause-image : goal.returns-clause-image
returns-clause-image c = subst IsImage c.self.view_is c.self.invariant.image
