-- Symbols as they are read. No public clause names what stands here.
use Rattle.std.specs.Prelude.{◌≡◌, ℕ, List, [], if◌then◌else◌, IfSome}
use Rattle.std.specs.Option.{option_map_or}
use Rattle.std.specs.declared.option.Option.{Option}
use Rattle.std.specs.declared.option.Option.TheVariants.{None, Some}
use Rattle.elf_image.specs.Seeds.{has_bytes}
use Rattle.elf_image.specs.Symbols as spec
use Rattle.elf_symbols.specs.declared.symbol.Symbol.{Symbol}
use Rattle.elf_symbols.specs.declared.seed.Seed.{Seed}
use Rattle.elf_symbols.specs.Seeds.{LiesIn}
use Rattle.elf_symbols.specs.Inner.Names.{text_of}

-- a symbol that was read, as the one that the file has
abbrev pub symbol_of : Symbol → spec.Symbol
symbol_of s = record { name = s.name; info = s.info; section = s.section; value = s.value }

-- a text that is a name: one that has a byte
abbrev pub as_name : List ℕ → Option (List ℕ)
as_name text = if has_bytes text then Some text else None

-- x is the seed of a symbol whose name stands in the string table
pub record IsSeedOf (bytes strings : List ℕ) (s : spec.Symbol) (x : Seed) : Type 0 where
  pub address : x.address ≡ s.value
  pub text : text_of bytes x ≡ as_name (spec.string_at strings s.name)
  pub lies : IfSome x.name (LiesIn bytes)

-- the string table of the file, if it has symbols
abbrev pub strings_in : List ℕ → List ℕ
strings_in bytes = option_map_or (spec.strings_of bytes) (spec.symbol_table bytes) []
