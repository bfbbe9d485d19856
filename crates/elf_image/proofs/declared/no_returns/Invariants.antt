use Rattle.std.proofs.Common.{◌≡◌, take}
use Rattle.std.specs.List.{flat_map, filter}
use Rattle.elf_image.specs.DeclaredNoReturns as spec
use Rattle.elf_image.proofs.declared.no_returns.Given as goal

abbrev pub invariant-loop-s : goal.invariant-loop-s
invariant-loop-s l =
    l.found.items ≡ flat_map (spec.no_returns_in l.bytes) (filter spec.is_declaring_no_returns (take l.s-index l.headers))
