use Rattle.std.proofs.Common.{◌≡◌, take}
use Rattle.std.specs.List.{flat_map, filter}
use Rattle.elf_image.specs.DeclaredTables as spec
use Rattle.elf_image.proofs.declared.read_tables.Given as goal

abbrev pub invariant-loop-s : goal.invariant-loop-s
invariant-loop-s l =
    l.tables.items ≡ flat_map (spec.declared_in l.bytes) (filter spec.is_declaring (take l.s-index l.headers))
