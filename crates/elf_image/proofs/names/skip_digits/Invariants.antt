use Rattle.std.proofs.Common.{◌≡◌, drop}
use Rattle.elf_image.specs.Architecture as spec
use Rattle.elf_image.specs.Inner.Architecture.{lower}
use Rattle.elf_image.proofs.names.skip_digits.Given as goal

abbrev pub invariant-loop-i : goal.invariant-loop-i
invariant-loop-i l = spec.skip_digits (lower (drop l.i l.text)) ≡ spec.skip_digits (lower l.text)
