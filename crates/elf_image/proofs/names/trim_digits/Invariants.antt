use Rattle.std.proofs.Common.{◌≡◌, length, reverse}
use Rattle.elf_image.specs.Architecture as spec
use Rattle.elf_image.specs.Inner.Architecture.{lower}
use Rattle.elf_image.proofs.names.trim_digits.Given as goal

abbrev pub invariant-loop-last : goal.invariant-loop-last
invariant-loop-last l =
    spec.skip_digits (reverse (lower l.front)) ≡ spec.skip_digits (reverse (lower l.text))

abbrev pub decreases-loop-last : goal.decreases-loop-last
decreases-loop-last l = length l.front
