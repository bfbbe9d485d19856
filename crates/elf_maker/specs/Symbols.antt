-- The symbol table and its string table (System V ABI, "Symbol Table" and "String Table").
use Rattle.std.specs.Prelude.{ℕ, ◌+◌, nat_lt, Bool, List, [], ◌∷◌, ◌++◌, length, replicate}
use Rattle.std.specs.Prelude.{if◌then◌else◌}
use Rattle.std.specs.List.{flat_map}
use Rattle.elf_maker.specs.declared.parts.MadeSymbol.{MadeSymbol}
use Rattle.elf_maker.specs.Fields.{halves, words, xwords}

-- The Elf64_Sym of a function at an address whose name begins at the offset `name` of the string
-- table. In order: st_name; st_info (STB_GLOBAL, STT_FUNC), st_other; st_shndx, the index of the
-- code section; st_value, st_size.
unfoldable pub symbol_entry : ℕ → ℕ → List ℕ
symbol_entry name address =
    words (name ∷ []) ++ (0x12 ∷ 0 ∷ []) ++ halves (1 ∷ []) ++ xwords (address ∷ 0 ∷ [])

-- a symbol's name as it stands in the string table, with a zero byte at its end
abbrev pub terminated_name : MadeSymbol → List ℕ
terminated_name s = s.name ++ 0 ∷ []

-- the entries of symbols whose names stand in the string table from the offset `name` on
unfoldable pub symbol_entries : ℕ → List MadeSymbol → List ℕ
symbol_entries name [] = []
symbol_entries name (s ∷ ss) =
    symbol_entry name s.address ++ symbol_entries (name + length (terminated_name s)) ss

-- whether a file has a symbol table and a string table: it has them if it has a symbol
abbrev pub has_symbols : List MadeSymbol → Bool
has_symbols symbols = nat_lt 0 (length symbols)

-- the symbol table: an entry of 24 zero bytes, and the entries of the symbols, in order
unfoldable pub symbol_table : List MadeSymbol → List ℕ
symbol_table symbols =
    if has_symbols symbols then replicate 24 0 ++ symbol_entries 1 symbols else []

-- the string table: a zero byte, and the names of the symbols, in order
unfoldable pub string_table : List MadeSymbol → List ℕ
string_table symbols = if has_symbols symbols then 0 ∷ flat_map terminated_name symbols else []
