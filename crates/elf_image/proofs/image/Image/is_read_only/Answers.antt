use Rattle.std.proofs.Common.{◌≡◌, Option, Some, None, ◌∙◌, ap, is_some, lit<, refl, sym}
use Rattle.std.specs.Borrow.{Bor}
use Rattle.std.specs.Option.{option_copied}
use Rattle.elf_image.specs.Sections.{sections}
use Rattle.elf_image.specs.ReadOnly.{is_read_only, is_read_only_section_of}
use Rattle.elf_image.proofs.Finds.{is_some-find}
use Rattle.elf_image.proofs.image.Image.is_read_only.Goals as goal

copied-is_some : {X : Type 0} (o : Option (Bor X)) → is_some (option_copied o) ≡ is_some o
copied-is_some None = refl
copied-is_some (Some x) = refl

pub returns : goal.returns
unfolding is_read_only
returns c =
    c.is_some.ensures ∙ sym (copied-is_some c.find.result) ∙ ap is_some (c.find.ensures ∙ c.self.invariant.layout.read_only c.args.a 1 (lit< tt))
    ∙ is_some-find (is_read_only_section_of c.args.a 1) (sections c.self.inside.bytes.items)
    ∙ ap (λ bytes. is_read_only bytes c.args.a) c.self.view_is
