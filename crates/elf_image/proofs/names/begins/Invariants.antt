use Rattle.std.proofs.Common.{◌≡◌, ◌≤◌, length, drop}
use Rattle.elf_image.specs.Architecture as spec
use Rattle.elf_image.specs.Inner.Architecture.{lower}
use Rattle.elf_image.proofs.names.begins.Given as goal

abbrev pub invariant-loop-i : goal.invariant-loop-i
invariant-loop-i l =
    (length l.word ≤ length l.text) × (spec.begins (drop l.i l.word) (drop l.i (lower l.text)) ≡ spec.begins l.word (lower l.text))
