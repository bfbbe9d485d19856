use Rattle.std.proofs.Common.{◌<◌, ◌∙◌, sym, ap, subst, length, arith}
use Rattle.elf_image.specs.Header as header
use Rattle.elf_image.proofs.Accepted.{is_long, some_sections}
use Rattle.elf_image.proofs.image.Image.section_count.Goals as goal

pub u16_at-requires : goal.u16_at-requires
u16_at-requires c =
    omega (arith, ap length c.deref.ensures.value, is_long c.self.inside.bytes.items c.self.invariant.image)

pub returns-clause-some : goal.returns-clause-some
returns-clause-some c =
    subst (λ n. 0 < n) (sym (c.into.ensures ∙ c.u16_at.ensures ∙ ap header.section_count c.deref.ensures.value))
    (some_sections c.self.inside.bytes.items c.self.invariant.image)
