use Rattle.std.proofs.Common.{◌≡◌, subst}
use Rattle.elf_image.specs.Faults.{first_fault, first_symbol_fault}
use Rattle.elf_image.proofs.FirstFault.{first-from_symbols}
use Rattle.elf_image.proofs.image.Image.parse.Goals as goal

pub returns-clause-rest : goal.returns-clause-rest
returns-clause-rest c =
    subst (λ bytes. first_fault bytes ≡ first_symbol_fault bytes) c.deref.ensures.value
    (first-from_symbols c.deref.result.now c.in_ok-layout.ensures.image)
