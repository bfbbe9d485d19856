-- What is kept of a symbol table. No public clause names what stands here.
use Rattle.std.specs.Prelude.{◌≡◌, ℕ, ◌+◌, ◌≤◌, List, length, MatchOption}
use Rattle.std.specs.declared.option.Option.{Option}
use Rattle.std.specs.declared.option.Option.TheVariants.{None, Some}
use Rattle.elf_image.specs.declared.section.Section.{Section}
use Rattle.elf_image.specs.Sections.{section}
use Rattle.elf_image.specs.Symbols as spec
use Rattle.elf_symbols.specs.declared.table.SymbolTable.{SymbolTable}

-- all bytes of a section stand in the file, which is small enough for 32-bit offsets
pub record IsInFile (bytes : List ℕ) (s : Section) : Type 0 where
  pub within : s.offset + s.size ≤ length bytes
  pub small : length bytes ≤ 67108864

-- the symbol table of a file, and the string table that its header names
pub record IsTableOf (bytes : List ℕ) (table : SymbolTable) : Type 0 where
  pub symbols : spec.symbol_table bytes ≡ Some table.symbols
  pub strings : table.strings ≡ section bytes table.symbols.link
  pub symbols_within : IsInFile bytes table.symbols
  pub strings_within : IsInFile bytes table.strings

-- the table, if the file has one
abbrev pub IsTable : List ℕ → Option SymbolTable → Type 0
IsTable bytes o = MatchOption o (spec.symbol_table bytes ≡ None) (IsTableOf bytes)
