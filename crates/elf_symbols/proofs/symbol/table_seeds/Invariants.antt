use Rattle.elf_symbols.proofs.Pass.{Passed}
use Rattle.elf_symbols.proofs.symbol.table_seeds.Given as goal

abbrev pub invariant-loop-i : goal.invariant-loop-i
invariant-loop-i l = Passed l.image l.table.symbols l.table.strings l.i l.seeds.items
