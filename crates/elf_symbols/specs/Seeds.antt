-- What a list of seeds says: the addresses where control flow starts, and where their names stand
-- in the file.
use Rattle.std.specs.Prelude.{ℕ, ◌+◌, ◌≤◌, ◌==◌, List, length, map}
use Rattle.std.specs.List.{find}
use Rattle.std.specs.Option.{option_and_then}
use Rattle.std.specs.declared.option.Option.{Option}
use Rattle.elf_image.specs.declared.section.Span.{Span}
use Rattle.elf_symbols.specs.declared.seed.Seed.{Seed}

-- the addresses, in the order of the list
abbrev pub addresses_of : List Seed → List ℕ
addresses_of seeds = map (λ s. s.address) seeds

-- the place of the name of the seed at an address, if there is such a seed and it has a name
abbrev pub name_in : List Seed → ℕ → Option Span
name_in seeds a = option_and_then (λ s. s.name) (find (λ s. s.address == a) seeds)

-- all bytes of a span stand in a file
abbrev pub LiesIn : List ℕ → Span → Type 0
LiesIn bytes span = span.at + span.len ≤ length bytes
