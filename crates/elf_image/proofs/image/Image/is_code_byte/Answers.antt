use Rattle.std.proofs.Common.{◌≡◌, Option, Some, None, ◌∙◌, ap, is_some, lit<, refl, sym}
use Rattle.std.specs.Borrow.{Bor}
use Rattle.std.specs.Option.{option_copied}
use Rattle.elf_image.specs.Sections.{sections}
use Rattle.elf_image.specs.Code.{is_code_byte, is_code_section_at}
use Rattle.elf_image.proofs.Finds.{is_some-find}
use Rattle.elf_image.proofs.image.Image.is_code_byte.Goals as goal

copied-is_some : {X : Type 0} (o : Option (Bor X)) → is_some (option_copied o) ≡ is_some o
copied-is_some None = refl
copied-is_some (Some x) = refl

pub returns : goal.returns
unfolding is_code_byte
returns c =
    c.is_some.ensures ∙ sym (copied-is_some c.find.result) ∙ ap is_some (c.find.ensures ∙ c.self.invariant.layout.code c.args.a 1 (lit< tt))
    ∙ is_some-find (is_code_section_at c.args.a) (sections c.self.inside.bytes.items)
    ∙ ap (λ bytes. is_code_byte bytes c.args.a) c.self.view_is
