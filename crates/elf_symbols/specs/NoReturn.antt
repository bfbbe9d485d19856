-- Functions whose calls do not come back: this project's profile.
use Rattle.std.specs.Prelude.{ℕ, ◌==◌, Bool, List, [], ◌∷◌, ◌++◌, map, codes, bytes_eq}
use Rattle.std.specs.List.{filter, list_any}
use Rattle.std.specs.Option.{option_map_or}
use Rattle.elf_image.specs.declared.section.Section.{Section}
use Rattle.elf_image.specs.Symbols.{Symbol, symbol_table, seed_symbols_in, strings_of, string_at}
use Rattle.elf_image.specs.DeclaredNoReturns.{declared_no_returns}

-- _Unwind_Resume (Itanium C++ ABI, "Exception Handling": it does not return), longjmp (ISO C, "The
-- longjmp function") and the names that C libraries have for it
abbrev pub no_return_names : List (List ℕ)
no_return_names =
    codes "_Unwind_Resume" ∷ codes "longjmp" ∷ codes "_longjmp" ∷ codes "siglongjmp"
    ∷ codes "__longjmp" ∷ codes "__longjmp_chk" ∷ codes "____longjmp_chk" ∷ []

-- a text is one of these names
abbrev pub is_listed : List ℕ → Bool
is_listed text = list_any (bytes_eq text) no_return_names

-- the values of the seed symbols of a table that have such a name in its string table
abbrev pub named_in : List ℕ → Section → List ℕ
named_in bytes table =
    map (λ s. s.value)
    (filter (λ s. is_listed (string_at (strings_of bytes table) s.name))
    (seed_symbols_in bytes table))

-- the functions of the file that do not return: those with such a name, and those that it declares
unfoldable pub no_returns : List ℕ → List ℕ
no_returns bytes =
    option_map_or (named_in bytes) (symbol_table bytes) [] ++ declared_no_returns bytes

unfoldable pub is_no_return : List ℕ → ℕ → Bool
is_no_return bytes a = list_any (λ n. n == a) (no_returns bytes)
