-- What is merged of all that was found is the file's seeds.
use Rattle.std.proofs.Common.{◌≡◌, ℕ, ◌<◌, true, List, [], ◌∷◌, ◌++◌, map, length, None, sym, ap, ◌∙◌, subst, arith, inl, inr}
use Rattle.std.specs.Prelude.{IfSome}
use Rattle.std.specs.List.{All, AllZip, Contains}
use Rattle.std.specs.List.Sorted.{IsPermutation}
use Rattle.std.specs.Option.{option_map}
use Rattle.std.proofs.lemmas.Bool.{cases_eq, eq-eqb, ne_eqb}
use Rattle.std.proofs.lemmas.List.{map_push}
use Rattle.std.proofs.lemmas.List.Elements.{Contains-get_or, All-contains, All-head, All-tail, Contains-append_left, Contains-push, Contains-push_cases}
use Rattle.std.proofs.lemmas.List.Sorted.{IsPermutation-map, IsPermutation-sym, Contains-permutation}
use Rattle.elf_image.specs.Header.{entry}
use Rattle.elf_image.specs.Code.{is_code}
use Rattle.elf_image.specs.ReadOnly.{span_bytes}
use Rattle.elf_image.specs.Symbols.{Symbol, seed_symbols}
use Rattle.elf_image.specs.Seeds.{rising, seeds, seed_name}
use Rattle.elf_symbols.specs.declared.seed.Seed.{Seed}
use Rattle.elf_symbols.specs.Seeds.{addresses_of, name_in, LiesIn}
use Rattle.elf_symbols.specs.Inner.Symbols.{IsSeedOf, strings_in}
use Rattle.elf_symbols.specs.Inner.Names.{IsLeastName}
use Rattle.elf_symbols.specs.Inner.Merged.{AreMerged}
use Rattle.elf_symbols.proofs.Members.{Contains-here, Contains-later, Contains-cons_cases, Contains-from_map}
use Rattle.elf_symbols.proofs.Rising.{ascends-from_increasing, ascends-same, rising-ascends, rising-keeps, rising-adds_none}
use Rattle.elf_symbols.proofs.LeastName.{least-same, least-unique}
use Rattle.elf_symbols.proofs.Codes.{code-seed_symbols}
use Rattle.elf_symbols.proofs.Names.{each-address, least-found}

-- a name that is found lies in the file, where all do
pub name_in-lies : (bytes : List ℕ) (ms : List Seed) (a : ℕ) → All (λ (s : Seed). IfSome s.name (LiesIn bytes)) ms → IfSome (name_in ms a) (LiesIn bytes)
name_in-lies bytes [] a lie = tt
name_in-lies bytes (m ∷ ms) a lie = elim (cases_eq m.address a) [
  | inl here ↦ rw (eq-eqb m.address a here) (All-head (λ (s : Seed). IfSome s.name (LiesIn bytes)) m ms lie)
  | inr other ↦ rw (ne_eqb m.address a other) (name_in-lies bytes ms a (All-tail (λ (s : Seed). IfSome s.name (LiesIn bytes)) m ms lie))
]

-- the last of a list, put first
front : (xs : List ℕ) (x z : ℕ) → Contains (xs ++ x ∷ []) z → Contains (x ∷ xs) z
front xs x z there = elim (Contains-push_cases xs x z there) [
  | inl before ↦ Contains-later x xs z before
  | inr same ↦ (0, omega arith, same)
]

back : (xs : List ℕ) (x z : ℕ) → Contains (x ∷ xs) z → Contains (xs ++ x ∷ []) z
back xs x z there = elim (Contains-cons_cases x xs z there) [
  | inl same ↦ subst (Contains (xs ++ x ∷ [])) same (Contains-push xs x)
  | inr later ↦ Contains-append_left xs (x ∷ []) z later
]

module _ (bytes : List ℕ) (ts : List Seed) (each : AllZip (IsSeedOf bytes (strings_in bytes)) (seed_symbols bytes) ts) (e : Seed) (at : e.address ≡ entry bytes) (nameless : e.name ≡ None) (found : List Seed) (is : found ≡ ts ++ e ∷ []) (sorted : List Seed) (moved : IsPermutation found sorted) (ms : List Seed) (m : AreMerged bytes sorted ms) where
  -- the addresses of the symbols and the entry
  abbrev given : List ℕ
  given = entry bytes ∷ map (λ (s : Symbol). s.value) (seed_symbols bytes)

  found-addresses : addresses_of found ≡ map (λ (s : Symbol). s.value) (seed_symbols bytes) ++ entry bytes ∷ []
  found-addresses =
      ap addresses_of is ∙ map_push (λ (t : Seed). t.address) ts e
      ∙ ap (λ xs. xs ++ e.address ∷ []) (each-address bytes (strings_in bytes) (seed_symbols bytes) ts each)
      ∙ ap (λ a. map (λ (s : Symbol). s.value) (seed_symbols bytes) ++ a ∷ []) at

  moved-addresses : IsPermutation (addresses_of found) (addresses_of sorted)
  moved-addresses = IsPermutation-map (λ (t : Seed). t.address) found sorted moved

  to : (z : ℕ) → Contains (addresses_of ms) z → Contains given z
  to z there =
      let before = Contains-permutation (addresses_of sorted) (addresses_of found) z (IsPermutation-sym (addresses_of found) (addresses_of sorted) moved-addresses) ((m.same z).0 there) in
      front (map (λ (s : Symbol). s.value) (seed_symbols bytes)) (entry bytes) z (subst (λ xs. Contains xs z) found-addresses before)

  fro : (z : ℕ) → Contains given z → Contains (addresses_of ms) z
  fro z there =
      let before = subst (λ xs. Contains xs z) (sym found-addresses) (back (map (λ (s : Symbol). s.value) (seed_symbols bytes)) (entry bytes) z there) in
      (m.same z).1 (Contains-permutation (addresses_of found) (addresses_of sorted) z moved-addresses before)

  pub all-addresses : addresses_of ms ≡ seeds bytes
  unfolding seeds
  all-addresses =
      ascends-same (addresses_of ms) (rising given) (ascends-from_increasing (addresses_of ms) m.rising) (rising-ascends given)
      (λ z there. rising-keeps given z (to z there)) (λ z there. fro z (rising-adds_none given z there))

  pub has-entry : Contains (addresses_of ms) (entry bytes)
  has-entry = fro (entry bytes) (Contains-here (entry bytes) (map (λ (s : Symbol). s.value) (seed_symbols bytes)))

  pub has-some : 0 < length (addresses_of ms)
  has-some = let there = has-entry in omega (arith, there.1)

  pub all-names : (a : ℕ) → option_map (span_bytes bytes) (name_in ms a) ≡ seed_name bytes a
  all-names a =
      least-unique bytes (Contains sorted) a (option_map (span_bytes bytes) (name_in ms a)) (seed_name bytes a) (m.names a)
      (least-same bytes (Contains found) (Contains sorted) a (seed_name bytes a) (λ s there. Contains-permutation found sorted s moved there) (λ s there. Contains-permutation sorted found s (IsPermutation-sym found sorted moved) there)
      (subst (λ xs. IsLeastName bytes (Contains xs) a (seed_name bytes a)) (sym is) (least-found bytes ts each e at nameless a)))

  code-given : is_code bytes (entry bytes) ≡ true → (z : ℕ) → Contains given z → is_code bytes z ≡ true
  code-given code z there = elim (Contains-cons_cases (entry bytes) (map (λ (s : Symbol). s.value) (seed_symbols bytes)) z there) [
    | inl same ↦ subst (λ a. is_code bytes a ≡ true) same code
    | inr later ↦
        let s = Contains-from_map (λ (s : Symbol). s.value) (seed_symbols bytes) z later in
        subst (λ a. is_code bytes a ≡ true) s.2 (All-contains (λ (s : Symbol). is_code bytes s.value ≡ true) (seed_symbols bytes) s.0 (code-seed_symbols bytes) s.1)
  ]

  pub all-code : is_code bytes (entry bytes) ≡ true → All (λ a. is_code bytes a ≡ true) (addresses_of ms)
  all-code code k d within = code-given code _ (to _ (Contains-get_or (addresses_of ms) k d within))
