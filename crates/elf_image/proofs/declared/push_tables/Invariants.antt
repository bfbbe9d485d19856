use Rattle.std.proofs.Common.{◌≡◌, ◌+◌, ◌*◌, ◌++◌, map}
use Rattle.std.specs.List.{range_with_len}
use Rattle.elf_image.specs.DeclaredTables as spec
use Rattle.elf_image.proofs.declared.push_tables.Given as goal

abbrev pub invariant-loop-i : goal.invariant-loop-i
invariant-loop-i l =
    l.tables.items ≡ l.fn.tables.items ++ map (λ i. spec.declared_table l.bytes (l.s.offset + 32 * i)) (range_with_len 0 l.i)
