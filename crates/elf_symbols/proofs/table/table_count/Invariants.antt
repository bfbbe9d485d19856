use Rattle.std.proofs.Common.{◌≡◌, ◌≤◌, length, map}
use Rattle.std.specs.List.{filter, range_with_len}
use Rattle.elf_image.specs.Sections.{section, is_symbol_table}
use Rattle.elf_symbols.proofs.table.table_count.Given as goal

abbrev pub invariant-loop-i : goal.invariant-loop-i
invariant-loop-i l =
    (l.count ≡ length (filter is_symbol_table (map (section l.image) (range_with_len 0 l.i)))) × (l.count ≤ l.i)
