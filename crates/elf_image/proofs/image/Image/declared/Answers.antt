use Rattle.std.proofs.Common.{◌∙◌, ap}
use Rattle.std.specs.List.{find}
use Rattle.elf_image.specs.DeclaredTables.{declared_at}
use Rattle.elf_image.proofs.ByJump.{jumps_at}
use Rattle.elf_image.proofs.image.Image.declared.Goals as goal

pub returns : goal.returns
unfolding declared_at
returns c =
    c.first_of_jump.ensures ∙ ap (find (jumps_at c.args.j)) c.deref.ensures.value ∙ c.self.invariant.layout.declared.same c.args.j
    ∙ ap (λ bytes. declared_at bytes c.args.j) c.self.view_is
