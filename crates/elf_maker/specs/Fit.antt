-- What parts must meet so that a file can be made of them.
use Rattle.std.specs.Prelude.{ℕ, ◌+◌, ◌≤◌, ◌==◌, Bool, not, min, max, List}
use Rattle.std.specs.List.{list_any, list_all}
use Rattle.elf_maker.specs.declared.parts.MadeSymbol.{MadeSymbol}

-- no address is among the n from a on and among the m from b on
abbrev pub AreDisjoint : ℕ → ℕ → ℕ → ℕ → Type 0
AreDisjoint a n b m = min (a + n) (b + m) ≤ max a b

-- a text without a zero byte
abbrev pub is_without_zero : List ℕ → Bool
is_without_zero text = not (list_any (λ b. b == 0) text)

-- no symbol has a zero byte in its name
abbrev pub have_whole_names : List MadeSymbol → Bool
have_whole_names symbols = list_all (λ s. is_without_zero s.name) symbols
