use Rattle.std.proofs.Common.{ap, length, arith}
use Rattle.elf_image.proofs.Accepted.{is_long}
use Rattle.elf_image.proofs.image.Image.names_index.Goals as goal

pub u16_at-requires : goal.u16_at-requires
u16_at-requires c =
    omega (arith, ap length c.deref.ensures.value, is_long c.self.inside.bytes.items c.self.invariant.image)
