use Rattle.std.proofs.Common.{◌≡◌, ℕ, ◌<◌, false}
use Rattle.elf_image.specs.Sections.{section, is_symbol_table}
use Rattle.elf_symbols.proofs.table.first_table.Given as goal

abbrev pub invariant-loop-i : goal.invariant-loop-i
invariant-loop-i l = (k : ℕ) → k < l.i → is_symbol_table (section l.image k) ≡ false
