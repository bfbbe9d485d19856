-- The faults of a made file's symbols, and its seeds.
use Rattle.std.proofs.Common.{◌≡◌, ℕ, zero, suc, ◌+◌, Bool, true, false, List, [], ◌∷◌, map, length, None, refl, ap, sym, ◌∙◌, subst, arith, inl, inr}
use Rattle.std.specs.Prelude.{◌⊎◌, ◌↔◌}
use Rattle.std.specs.List.{filter, Contains, Any}
use Rattle.std.proofs.lemmas.Bool.{cases_Bool, ltb-false}
use Rattle.elf_image.specs.Header as header
use Rattle.elf_image.specs.Symbols as symbols
use Rattle.elf_image.specs.Symbols.{Symbol}
use Rattle.elf_image.specs.Seeds.{seeds}
use Rattle.elf_image.specs.FaultTests.{has_bad_symbol_table, has_bad_symbol_name}
use Rattle.elf_maker.specs.declared.parts.Parts.{Parts}
use Rattle.elf_maker.specs.declared.parts.MadeSymbol.{MadeSymbol}
use Rattle.elf_maker.specs.Symbols.{terminated_name, has_symbols}
use Rattle.elf_maker.specs.Sections.{symbol_headers}
use Rattle.elf_maker.specs.MadeFile.{made_file}
use Rattle.elf_maker.specs.Given.{is_code_given, IsSeedGiven}
use Rattle.elf_maker.proofs.Fitting.{AreFit}
use Rattle.elf_maker.proofs.Rising.{no-member, Contains-here, Contains-later, Contains-cons_cases, rising-keeps, rising-adds_none}
use Rattle.elf_maker.proofs.MadeSections.{sections_made, entry_made}
use Rattle.elf_maker.proofs.ReadSymbols.{made_symbol, made_symbols, seed_symbol-is, table_found, tables_kept, table_is_right, names_are_right, seed_symbols_made}

any-here : {X : Type 0} (P : X → Type 0) (x : X) (xs : List X) → P x → Any P (x ∷ xs)
any-here P x xs holds = (0, x, omega arith, refl, holds)

any-later : {X : Type 0} (P : X → Type 0) (x : X) (xs : List X) → Any P xs → Any P (x ∷ xs)
any-later P x xs it = (suc it.0, it.1, omega (arith, it.2), it.3, it.4)

any-cases : {X : Type 0} (P : X → Type 0) (x : X) (xs : List X) → Any P (x ∷ xs) → P x ⊎ Any P xs
any-cases P x xs (zero, y, within, is, holds) = inl (subst P (sym is) holds)
any-cases P x xs (suc k, y, within, is, holds) = inr (k, y, omega (arith, within), is, holds)

-- the values of the symbols that pass a test of their values
module _ (seed : Symbol → Bool) (good : ℕ → Bool) (same : (name address : ℕ) → seed (made_symbol name address) ≡ good address) where
  abbrev values : ℕ → List MadeSymbol → List ℕ
  values name ss = map (λ s. s.value) (filter seed (made_symbols name ss))

  kept-given : (a name : ℕ) (ss : List MadeSymbol) → Contains (values name ss) a → (good a ≡ true) × Any (λ s. s.address ≡ a) ss
  unfolding made_symbol
  kept-given a name [] there = absurd (no-member a there)
  kept-given a name (s ∷ ss) there = elim (cases_Bool (good s.address)) [
    | inl passes ↦
        elim (Contains-cons_cases s.address (values (name + length (terminated_name s)) ss) a (rw (same name s.address, passes) at there)) [
          | inl is ↦ (ap good (sym is) ∙ passes, any-here (λ t. t.address ≡ a) s ss is)
          | inr later ↦
              let rest = kept-given a (name + length (terminated_name s)) ss later in
              (rest.0, any-later (λ t. t.address ≡ a) s ss rest.1)
        ]
    | inr fails ↦
        let rest = kept-given a (name + length (terminated_name s)) ss (rw (same name s.address, fails) at there) in
        (rest.0, any-later (λ t. t.address ≡ a) s ss rest.1)
  ]

  given-kept : (a name : ℕ) (ss : List MadeSymbol) → good a ≡ true → Any (λ s. s.address ≡ a) ss → Contains (values name ss) a
  unfolding made_symbol
  given-kept a name [] passes it = absurd (omega (arith, it.2))
  given-kept a name (s ∷ ss) passes it = elim (any-cases (λ t. t.address ≡ a) s ss it) [
    | inl is ↦
        let kept : good s.address ≡ true = ap good is ∙ passes in
        rw (same name s.address, kept)
        (subst (Contains (s.address ∷ values (name + length (terminated_name s)) ss)) is (Contains-here s.address (values (name + length (terminated_name s)) ss)))
    | inr later ↦
        let rest = given-kept a (name + length (terminated_name s)) ss passes later in
        elim (cases_Bool (good s.address)) [
          | inl keeps ↦ rw (same name s.address, keeps) (Contains-later (made_symbol name s.address).value (values (name + length (terminated_name s)) ss) a rest)
          | inr drops ↦ rw (same name s.address, drops) rest
        ]
  ]

module _ (parts : Parts) (fit : AreFit parts) where
  -- without symbols there is no table
  no_table : has_symbols parts.symbols ≡ false → symbols.symbol_table (made_file parts) ≡ None
  unfolding symbol_headers
  no_table none = rw (sections_made parts fit, none) refl

  no_tables : has_symbols parts.symbols ≡ false → symbols.symbol_tables (made_file parts) ≡ []
  unfolding symbol_headers symbols.symbol_tables
  no_tables none = rw (sections_made parts fit, none) refl

  pub right_symbol_table : has_bad_symbol_table (made_file parts) ≡ false
  unfolding has_bad_symbol_table
  right_symbol_table = elim (cases_Bool (has_symbols parts.symbols)) [
    | inl some ↦ rw (tables_kept parts fit some, table_is_right parts fit some) refl
    | inr none ↦ rw (no_tables none) refl
  ]

  pub right_symbol_names : has_bad_symbol_name (made_file parts) ≡ false
  unfolding has_bad_symbol_name
  right_symbol_names = elim (cases_Bool (has_symbols parts.symbols)) [
    | inl some ↦ rw (table_found parts fit some) (names_are_right parts fit some)
    | inr none ↦ rw (no_table none) refl
  ]

  -- the values of the seed symbols
  abbrev found : List ℕ
  found = map (λ s. s.value) (symbols.seed_symbols (made_file parts))

  found-given : (a : ℕ) → Contains found a → (is_code_given parts a ≡ true) × Any (λ s. s.address ≡ a) parts.symbols
  found-given a there = elim (cases_Bool (has_symbols parts.symbols)) [
    | inl some ↦
        kept-given (symbols.is_seed_symbol (made_file parts)) (is_code_given parts) (seed_symbol-is parts fit some) a 1 parts.symbols
        (rw (table_found parts fit some, seed_symbols_made parts fit some) at there)
    | inr none ↦ absurd (no-member a (rw (no_table none) at there))
  ]

  given-found : (a : ℕ) → is_code_given parts a ≡ true → Any (λ s. s.address ≡ a) parts.symbols → Contains found a
  given-found a code it = elim (cases_Bool (has_symbols parts.symbols)) [
    | inl some ↦
        rw (table_found parts fit some, seed_symbols_made parts fit some)
        (given-kept (symbols.is_seed_symbol (made_file parts)) (is_code_given parts) (seed_symbol-is parts fit some) a 1 parts.symbols code it)
    | inr none ↦ absurd (omega (arith, ltb-false 0 (length parts.symbols) none, it.2))
  ]

  seed-given : (a : ℕ) → Contains (seeds (made_file parts)) a → IsSeedGiven parts a
  unfolding seeds
  seed-given a there =
      elim (Contains-cons_cases (header.entry (made_file parts)) found a (rising-adds_none (header.entry (made_file parts) ∷ found) a there)) [
        | inl is ↦ inl (sym is ∙ entry_made parts fit)
        | inr later ↦ inr (found-given a later)
      ]

  given-seed : (a : ℕ) → IsSeedGiven parts a → Contains (seeds (made_file parts)) a
  unfolding seeds
  given-seed a (inl is) =
      rising-keeps (header.entry (made_file parts) ∷ found) a
      (subst (Contains (header.entry (made_file parts) ∷ found)) (entry_made parts fit ∙ sym is) (Contains-here (header.entry (made_file parts)) found))
  given-seed a (inr it) =
      rising-keeps (header.entry (made_file parts) ∷ found) a (Contains-later (header.entry (made_file parts)) found a (given-found a it.0 it.1))

  pub seeds_made : (a : ℕ) → Contains (seeds (made_file parts)) a ↔ IsSeedGiven parts a
  seeds_made a = (seed-given a, given-seed a)
