-- The seeds with a name of the list stand at the addresses of the symbols that have one.
use Rattle.std.proofs.Common.{◌≡◌, ℕ, ◌<◌, ◌≤◌, Bool, false, List, [], ◌∷◌, ◌++◌, length, get_or, map, Option, Some, None, Result, Ok, Err, is_ok, eqb, nat_cmp, refl, sym, ap, ap₂, ◌∙◌, arith, inl, inr}
use Rattle.std.specs.List.{filter, AllZip, list_any}
use Rattle.std.specs.List.Sorted.{IsPermutation, IsNonDecreasing, IsBinarySearchResult}
use Rattle.std.specs.Option.{option_map_or}
use Rattle.std.proofs.lemmas.Bool.{cases_Bool, cases_lt, eq-eqb, ne_eqb}
use Rattle.std.proofs.lemmas.List.{get_or_default}
use Rattle.std.proofs.lemmas.List.Folds.{list_any_at, list_any_none}
use Rattle.std.proofs.lemmas.List.Sorted.{list_any-IsPermutation, searched}
use Rattle.elf_image.specs.declared.section.Section.{Section}
use Rattle.elf_image.specs.Seeds.{has_bytes}
use Rattle.elf_image.specs.Symbols.{Symbol, symbol_table, seed_symbols, seed_symbols_in, strings_of, string_at}
use Rattle.elf_image.specs.DeclaredNoReturns.{declared_no_returns}
use Rattle.elf_symbols.specs.declared.seed.Seed.{Seed}
use Rattle.elf_symbols.specs.NoReturn.{is_listed, named_in, no_returns, is_no_return}
use Rattle.elf_symbols.specs.Inner.Names.{text_of}
use Rattle.elf_symbols.specs.Inner.NoReturn.{has_listed_name}
use Rattle.elf_symbols.specs.Inner.Symbols.{as_name, IsSeedOf, strings_in}

-- the empty text is no name, and is not listed
listed-as_name : (t : List ℕ) → option_map_or is_listed (as_name t) false ≡ is_listed t
listed-as_name [] = refl
listed-as_name (b ∷ bs) = refl

-- a test of symbols: the name is listed
abbrev is_named : List ℕ → Symbol → Bool
is_named strings s = is_listed (string_at strings s.name)

module _ (bytes strings : List ℕ) where
  listed-same : (s : Symbol) (x : Seed) → IsSeedOf bytes strings s x → has_listed_name bytes x ≡ is_named strings s
  listed-same s x of = ap (λ t. option_map_or is_listed t false) of.text ∙ listed-as_name (string_at strings s.name)

  pub named-same : (xs : List Symbol) (ts : List Seed) → AllZip (IsSeedOf bytes strings) xs ts → map (λ (t : Seed). t.address) (filter (has_listed_name bytes) ts) ≡ map (λ (s : Symbol). s.value) (filter (is_named strings) xs)
  named-same [] [] each = refl
  named-same [] (t ∷ ts) each = absurd each
  named-same (x ∷ xs) [] each = absurd each
  named-same (x ∷ xs) (t ∷ ts) each =
      let same = listed-same x t each.0 in
      let rest = named-same xs ts each.1 in
      elim (cases_Bool (is_named strings x)) [
        | inl passes ↦ rw (same, passes) (ap₂ (λ a as'. a ∷ as') each.0.address rest)
        | inr fails ↦ rw (same, fails) rest
      ]

-- over the whole file
by_table : (bytes : List ℕ) (o : Option Section) → map (λ (s : Symbol). s.value) (filter (is_named (option_map_or (strings_of bytes) o [])) (option_map_or (seed_symbols_in bytes) o [])) ≡ option_map_or (named_in bytes) o []
by_table bytes None = refl
by_table bytes (Some table) = refl

-- what is found of symbols and declarations, in any order, answers as all functions that do not return
pub any-same : (bytes : List ℕ) (ts : List Seed) (found all kept : List ℕ) → AllZip (IsSeedOf bytes (strings_in bytes)) (seed_symbols bytes) ts → found ≡ map (λ (t : Seed). t.address) (filter (has_listed_name bytes) ts) → all ≡ found ++ declared_no_returns bytes → IsPermutation all kept → (a : ℕ) → list_any (λ n. eqb n a) kept ≡ is_no_return bytes a
unfolding is_no_return no_returns
any-same bytes ts found all kept each named more moved a =
    let symbols = named ∙ named-same bytes (strings_in bytes) (seed_symbols bytes) ts each ∙ by_table bytes (symbol_table bytes) in
    sym (list_any-IsPermutation (λ n. eqb n a) all kept moved)
    ∙ ap (list_any (λ n. eqb n a)) (more ∙ ap (λ xs. xs ++ declared_no_returns bytes) symbols)

-- what a search among addresses that rise finds
not_falling : (xs : List ℕ) → IsNonDecreasing xs → (i j : ℕ) → i ≤ j → j < length xs → get_or xs i 0 ≤ get_or xs j 0
not_falling xs rises i j order within = rises i j 0 order within

pub any-searched : (xs : List ℕ) (a : ℕ) (r : Result ℕ ℕ) → IsNonDecreasing xs → IsBinarySearchResult (λ y. nat_cmp y a) xs r → is_ok r ≡ list_any (λ n. eqb n a) xs
any-searched xs a (Ok i) rises result =
    let it = searched xs a (Ok i) result (not_falling xs rises) in
    sym (list_any_at (λ n. eqb n a) xs i 0 it.0 (eq-eqb (get_or xs i 0) a it.1))
any-searched xs a (Err i) rises result =
    let it = searched xs a (Err i) result (not_falling xs rises) in
    sym (list_any_none (λ n. eqb n a) xs (λ k d within.
    let same = get_or_default xs k d 0 within in
    ne_eqb (get_or xs k d) a (λ e. elim (cases_lt k i) [
      | inl below ↦ let less = it.1 k below in omega arith
      | inr above ↦ let more = it.2 k above within in omega arith
    ])))
