-- The seeds of the symbols and the entry have the addresses and the least names that the file's seeds have.
use Rattle.std.proofs.Common.{◌≡◌, ℕ, eqb, List, [], ◌∷◌, ◌++◌, map, Option, Some, None, refl, sym, ap, ap₂, ◌∙◌, subst, inl, inr}
use Rattle.std.specs.Prelude.{◌⊎◌, IfSome}
use Rattle.std.specs.List.{filter, All, AllZip, Contains}
use Rattle.std.specs.Option.{option_map, option_map_or, option_and_then}
use Rattle.std.proofs.lemmas.Bool.{cases_Bool, cases_eq, eqb-true, eqb-false}
use Rattle.std.proofs.lemmas.List.Elements.{All-nil, All-cons, All-push, Contains-append_left, Contains-push, Contains-push_cases}
use Rattle.elf_image.specs.declared.section.Section.{Section}
use Rattle.elf_image.specs.Header.{entry}
use Rattle.elf_image.specs.ReadOnly.{span_bytes}
use Rattle.elf_image.specs.Symbols.{Symbol, symbol_table, seed_symbols, seed_symbols_in, strings_of, string_at}
use Rattle.elf_image.specs.Seeds.{lesser, least, has_bytes, names_in, seed_name}
use Rattle.elf_symbols.specs.declared.seed.Seed.{Seed}
use Rattle.elf_symbols.specs.Seeds.{addresses_of, LiesIn}
use Rattle.elf_symbols.specs.Inner.Names.{text_of}
use Rattle.elf_symbols.specs.Inner.Symbols.{as_name, IsSeedOf, strings_in}
use Rattle.elf_symbols.specs.Inner.Names.{lesser_name, IsLeastName}
use Rattle.elf_symbols.proofs.Members.{no-member, Contains-here, Contains-later, Contains-cons_cases}
use Rattle.elf_symbols.proofs.LeastName.{lesser-none, lesser_name-comm, least-none, least-here, least-there}

module _ (bytes strings : List ℕ) where
  -- the seeds of symbols stand where the symbols do, and their names in the file
  pub each-address : (xs : List Symbol) (ts : List Seed) → AllZip (IsSeedOf bytes strings) xs ts → addresses_of ts ≡ map (λ (s : Symbol). s.value) xs
  each-address [] [] each = refl
  each-address [] (t ∷ ts) each = absurd each
  each-address (x ∷ xs) [] each = absurd each
  each-address (x ∷ xs) (t ∷ ts) each = ap₂ (λ a as'. a ∷ as') each.0.address (each-address xs ts each.1)

  pub each-lies : (xs : List Symbol) (ts : List Seed) → AllZip (IsSeedOf bytes strings) xs ts → All (λ (t : Seed). IfSome t.name (LiesIn bytes)) ts
  each-lies [] [] each = All-nil (λ (t : Seed). IfSome t.name (LiesIn bytes))
  each-lies [] (t ∷ ts) each = absurd each
  each-lies (x ∷ xs) [] each = absurd each
  each-lies (x ∷ xs) (t ∷ ts) each = All-cons (λ (t : Seed). IfSome t.name (LiesIn bytes)) t ts each.0.lies (each-lies xs ts each.1)

  -- the names of the symbols at an address
  abbrev texts_at : List Symbol → ℕ → List (List ℕ)
  texts_at xs a = map (λ (s : Symbol). string_at strings s.name) (filter (λ (s : Symbol). eqb s.value a) xs)

  lesser-least : (s : List ℕ) (o : Option (List ℕ)) → lesser_name (Some s) o ≡ Some (option_map_or (lesser s) o s)
  lesser-least s None = refl
  lesser-least s (Some t) = refl

  -- one more text, if it is a name
  with_text : (t : List ℕ) (ts : List (List ℕ)) → lesser_name (least (filter has_bytes ts)) (as_name t) ≡ least (filter has_bytes (t ∷ ts))
  with_text t ts = elim (cases_Bool (has_bytes t)) [
    | inl some ↦ rw some (lesser_name-comm (least (filter has_bytes ts)) (Some t) ∙ lesser-least t (least (filter has_bytes ts)))
    | inr none ↦ rw none (lesser-none (least (filter has_bytes ts)))
  ]

  swapped : (t : Seed) (ts : List Seed) (s : Seed) → Contains (t ∷ ts) s → Contains ts s ⊎ (t ≡ s)
  swapped t ts s there = elim (Contains-cons_cases t ts s there) [
    | inl same ↦ inr same
    | inr later ↦ inl later
  ]

  pub least-symbols : (a : ℕ) (xs : List Symbol) (ts : List Seed) → AllZip (IsSeedOf bytes strings) xs ts → IsLeastName bytes (Contains ts) a (least (filter has_bytes (texts_at xs a)))
  least-symbols a [] [] each = least-none bytes (Contains []) a (λ s there. no-member s there)
  least-symbols a [] (t ∷ ts) each = absurd each
  least-symbols a (x ∷ xs) [] each = absurd each
  least-symbols a (x ∷ xs) (t ∷ ts) each =
      let before = least-symbols a xs ts each.1 in
      let old : (s : Seed) → Contains ts s → Contains (t ∷ ts) s = λ s there. Contains-later t ts s there in
      let o = least (filter has_bytes (texts_at xs a)) in
      elim (cases_Bool (eqb x.value a)) [
        | inl here ↦
            let after = least-here bytes (Contains ts) (Contains (t ∷ ts)) t old (Contains-here t ts) (swapped t ts) a o (each.0.address ∙ eqb-true x.value a here) before in
            let same : lesser_name o (text_of bytes t) ≡ least (filter has_bytes (string_at strings x.name ∷ texts_at xs a)) = ap (lesser_name o) each.0.text ∙ with_text (string_at strings x.name) (texts_at xs a) in
            rw here (subst (IsLeastName bytes (Contains (t ∷ ts)) a) same after)
        | inr other ↦
            rw other (least-there bytes (Contains ts) (Contains (t ∷ ts)) t old (Contains-here t ts) (swapped t ts) a o (λ e. eqb-false x.value a other (sym each.0.address ∙ e)) before)
      ]

-- the name of a seed of the file, where it has a symbol table and where it has none
by_table : (bytes : List ℕ) (a : ℕ) (o : Option Section) → option_and_then (λ table. least (filter has_bytes (names_in bytes table a))) o ≡ least (filter has_bytes (texts_at bytes (option_map_or (strings_of bytes) o []) (option_map_or (seed_symbols_in bytes) o []) a))
by_table bytes a None = refl
by_table bytes a (Some table) = refl

module _ (bytes : List ℕ) (ts : List Seed) (each : AllZip (IsSeedOf bytes (strings_in bytes)) (seed_symbols bytes) ts) (e : Seed) (at : e.address ≡ entry bytes) (nameless : e.name ≡ None) where
  -- with the entry, which has no name of its own
  pub least-found : (a : ℕ) → IsLeastName bytes (Contains (ts ++ e ∷ [])) a (seed_name bytes a)
  unfolding seed_name
  least-found a =
      let before = least-symbols bytes (strings_in bytes) a (seed_symbols bytes) ts each in
      let o = least (filter has_bytes (texts_at bytes (strings_in bytes) (seed_symbols bytes) a)) in
      let old : (s : Seed) → Contains ts s → Contains (ts ++ e ∷ []) s = λ s there. Contains-append_left ts (e ∷ []) s there in
      let parts : (s : Seed) → Contains (ts ++ e ∷ []) s → Contains ts s ⊎ (e ≡ s) = λ s there. Contains-push_cases ts e s there in
      subst (IsLeastName bytes (Contains (ts ++ e ∷ [])) a) (sym (by_table bytes a (symbol_table bytes)))
      (elim (cases_eq e.address a) [
        | inl here ↦
            subst (IsLeastName bytes (Contains (ts ++ e ∷ [])) a) (ap (λ n. lesser_name o (option_map (span_bytes bytes) n)) nameless ∙ lesser-none o)
            (least-here bytes (Contains ts) (Contains (ts ++ e ∷ [])) e old (Contains-push ts e) parts a o here before)
        | inr other ↦ least-there bytes (Contains ts) (Contains (ts ++ e ∷ [])) e old (Contains-push ts e) parts a o other before
      ])

  pub found-lies : All (λ (t : Seed). IfSome t.name (LiesIn bytes)) (ts ++ e ∷ [])
  found-lies =
      All-push (λ (t : Seed). IfSome t.name (LiesIn bytes)) ts e (each-lies bytes (strings_in bytes) (seed_symbols bytes) ts each)
      (subst (λ n. IfSome n (LiesIn bytes)) (sym nameless) tt)
