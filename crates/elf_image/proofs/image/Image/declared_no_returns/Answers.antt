use Rattle.std.proofs.Common.{◌≡◌, sym, subst, false}
use Rattle.elf_image.specs.declared.fault.Fault.TheVariants.{SectionRange}
use Rattle.elf_image.specs.Faults.{has_fault}
use Rattle.elf_image.proofs.Accepted.{range_fits}
use Rattle.elf_image.proofs.image.Image.declared_no_returns.Goals as goal

pub no_returns-requires-clause-in_file : goal.no_returns-requires-clause-in_file
no_returns-requires-clause-in_file c =
    subst (λ bytes. has_fault bytes SectionRange ≡ false) (sym c.deref.ensures.value)
    (range_fits c.self.inside.bytes.items c.self.invariant.image)
