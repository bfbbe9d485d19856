use Rattle.std.proofs.Common.{◌≡◌, ℕ, ◌+◌, ◌^◌, ◌<◌, ◌++◌, length, drop, get_or}
use Rattle.elf_maker.specs.declared.parts.MadeSymbol.{MadeSymbol}
use Rattle.std.specs.List.{flat_map}
use Rattle.elf_maker.specs.Symbols.{terminated_name, symbol_entries}
use Rattle.elf_maker.proofs.symbol.put_symbols.Given as goal

-- the entries of the symbols that are left complete the table, and their names the string table
abbrev pub invariant-loop-symbol : goal.invariant-loop-symbol
invariant-loop-symbol l = record {
  entries : l.table.items ++ symbol_entries l.name (drop l.symbol-index l.symbols) ≡ l.initial.table.items ++ symbol_entries 1 l.symbols;
  names : l.name + length (flat_map terminated_name (drop l.symbol-index l.symbols)) ≡ 1 + length (flat_map terminated_name l.symbols);
  addresses : (k : ℕ) (d : MadeSymbol) → k < l.symbol-index → (get_or l.symbols k d).address < 2 ^ 64;
}
