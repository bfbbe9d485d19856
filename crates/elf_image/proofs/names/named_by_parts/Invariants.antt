use Rattle.std.proofs.Common.{◌≡◌}
use Rattle.std.specs.List.{flat_map}
use Rattle.elf_image.specs.Architecture as spec
use Rattle.elf_image.specs.Inner.Architecture.{lower}
use Rattle.elf_image.proofs.names.named_by_parts.Given as goal

abbrev pub invariant-loop-part : goal.invariant-loop-part
invariant-loop-part l =
    l.found ≡ spec.all_named (flat_map (λ part. spec.names_of_part (lower part.now)) l.yielded)
