use Rattle.std.proofs.Common.{◌≡◌, ◌++◌, take}
use Rattle.std.specs.List.{flat_map}
use Rattle.elf_maker.specs.Symbols.{terminated_name}
use Rattle.elf_maker.proofs.symbol.put_names.Given as goal

-- the names up to here stand behind the table as it was
abbrev pub invariant-loop-symbol : goal.invariant-loop-symbol
invariant-loop-symbol l = l.table.items ≡ l.initial.table.items ++ flat_map terminated_name (take l.symbol-index l.symbols)
