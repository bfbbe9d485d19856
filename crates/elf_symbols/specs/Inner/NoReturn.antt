-- What is kept of the functions that do not return. No public clause names what stands here.
use Rattle.std.specs.Prelude.{◌≡◌, ℕ, ◌==◌, Bool, false, List}
use Rattle.std.specs.List.{list_any}
use Rattle.std.specs.List.Sorted.{IsNonDecreasing}
use Rattle.std.specs.Option.{option_map_or}
use Rattle.elf_symbols.specs.declared.seed.Seed.{Seed}
use Rattle.elf_symbols.specs.NoReturn.{is_listed, is_no_return}
use Rattle.elf_symbols.specs.Inner.Names.{text_of}

-- a seed has a name of the list
abbrev pub has_listed_name : List ℕ → Seed → Bool
has_listed_name bytes s = option_map_or is_listed (text_of bytes s) false

-- these are the functions that do not return, in the order of their addresses
pub record AreNoReturns (bytes kept : List ℕ) : Type 0 where
  pub rises : IsNonDecreasing kept
  pub same : (a : ℕ) → list_any (λ n. n == a) kept ≡ is_no_return bytes a
