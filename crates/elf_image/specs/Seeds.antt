-- The addresses from which control flow is followed, and their names: this project's profile.
use Rattle.std.specs.Prelude.{ℕ, ◌==◌, nat_lt, Bool, true, false, List, [], ◌∷◌, map, if◌then◌else◌}
use Rattle.std.specs.List.{filter}
use Rattle.std.specs.Option.{option_map_or, option_and_then}
use Rattle.std.specs.declared.option.Option.{Option}
use Rattle.std.specs.declared.option.Option.TheVariants.{None, Some}
use Rattle.std.specs.Ordering.{nat_cmp, is_lt}
use Rattle.std.specs.Cmp.Lexicographic.{slice_cmp}
use Rattle.elf_image.specs.declared.section.Section.{Section}
use Rattle.elf_image.specs.Header.{entry}
use Rattle.elf_image.specs.Symbols.{symbol_table, seed_symbols, seed_symbols_in, strings_of}
use Rattle.elf_image.specs.Symbols.{string_at}

-- a list of rising numbers with one more in its place, each once
abbrev pub with_number : ℕ → List ℕ → List ℕ
with_number a [] = a ∷ []
with_number a (x ∷ xs) =
    if nat_lt a x then a ∷ x ∷ xs else (if a == x then x ∷ xs else x ∷ with_number a xs)

-- the numbers of a list, rising, each once
abbrev pub rising : List ℕ → List ℕ
rising [] = []
rising (x ∷ xs) = with_number x (rising xs)

-- the entry and the values of the seed symbols, rising, each once
unfoldable pub seeds : List ℕ → List ℕ
seeds bytes = rising (entry bytes ∷ map (λ s. s.value) (seed_symbols bytes))

-- the lesser of two texts by the order of their bytes
abbrev pub lesser : List ℕ → List ℕ → List ℕ
lesser s t = if is_lt (slice_cmp nat_cmp t s) then t else s

-- the least text of a list, by the order of bytes
abbrev pub least : List (List ℕ) → Option (List ℕ)
least [] = None
least (s ∷ ss) = Some (option_map_or (lesser s) (least ss) s)

-- a text that has a byte
abbrev pub has_bytes : List ℕ → Bool
has_bytes [] = false
has_bytes (b ∷ bs) = true

-- the names of the seed symbols of a table that stand at an address
abbrev pub names_in : List ℕ → Section → ℕ → List (List ℕ)
names_in bytes table a =
    map (λ s. string_at (strings_of bytes table) s.name)
    (filter (λ s. s.value == a) (seed_symbols_in bytes table))

-- the name of a seed: the least name that is not empty of the seed symbols at its address
unfoldable pub seed_name : List ℕ → ℕ → Option (List ℕ)
seed_name bytes a =
    option_and_then (λ table. least (filter has_bytes (names_in bytes table a)))
    (symbol_table bytes)
