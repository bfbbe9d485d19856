-- The pass over a symbol table, symbol by symbol.
use Rattle.std.proofs.Common.{◌≡◌, ℕ, ◌+◌, ◌*◌, ◌/◌, ◌<◌, Bool, true, false, ◌&&◌, ◌||◌, cond, List, [], ◌∷◌, ◌++◌, map, refl, sym, ap, ◌∙◌, subst, arith, inl, inr}
use Rattle.std.specs.List.{filter, list_any, range_with_len, AllZip}
use Rattle.std.proofs.lemmas.Bool.{cases_Bool, cases_eq, and_left, and_right, and_from}
use Rattle.std.proofs.lemmas.List.{append-nil}
use Rattle.std.proofs.lemmas.List.FromFn.{filter_of_map_range_with_len_more}
use Rattle.elf_image.specs.declared.section.Section.{Section}
use Rattle.elf_image.specs.Sections.{section}
use Rattle.elf_image.specs.Symbols.{Symbol, symbol_at, section_bytes, strings_of, is_seed_symbol, seed_symbols_in}
use Rattle.elf_image.specs.FaultTests.{is_bad_name, has_bad_name_in}
use Rattle.elf_image.proofs.Ranges.{any-none, any-at}
use Rattle.elf_symbols.specs.declared.seed.Seed.{Seed}
use Rattle.elf_symbols.specs.Inner.Symbols.{IsSeedOf}

-- the symbol at an index of a table
abbrev pub nth : List ℕ → Section → ℕ → Symbol
nth bytes table k = symbol_at bytes (table.offset + 24 * k)

-- a seed symbol whose name is bad
abbrev pub is_bad_seed : List ℕ → Section → Symbol → Bool
is_bad_seed bytes strings x = is_seed_symbol bytes x && is_bad_name (section_bytes bytes strings) strings.size x

-- the first i symbols gave these seeds
pub record Passed (bytes : List ℕ) (table strings : Section) (i : ℕ) (seeds : List Seed) : Type 0 where
  pub good : (k : ℕ) → k < i → is_bad_seed bytes strings (nth bytes table k) ≡ false
  pub each : AllZip (IsSeedOf bytes (section_bytes bytes strings)) (filter (is_seed_symbol bytes) (map (nth bytes table) (range_with_len 0 i))) seeds

any-filter : {X : Type 0} (p q : X → Bool) (xs : List X) → list_any q (filter p xs) ≡ list_any (λ x. p x && q x) xs
any-filter p q [] = refl
any-filter p q (x ∷ xs) = elim (cases_Bool (p x)) [
  | inl passes ↦ rw passes (ap (λ b. q x || b) (any-filter p q xs))
  | inr fails ↦ rw fails (any-filter p q xs)
]

zip-push : {A B : Type 0} (R : A → B → Type 0) (xs : List A) (ys : List B) (x : A) (y : B) → AllZip R xs ys → R x y → AllZip R (xs ++ x ∷ []) (ys ++ y ∷ [])
zip-push R [] [] x y h r = (r, tt)
zip-push R [] (b ∷ bs) x y h r = absurd h
zip-push R (a ∷ as') [] x y h r = absurd h
zip-push R (a ∷ as') (b ∷ bs) x y h r = (h.0, zip-push R as' bs x y h.1 r)

module _ (bytes : List ℕ) (table strings : Section) where
  pub passed-none : Passed bytes table strings 0 []
  passed-none = record { good = λ k below. absurd (omega arith); each = tt }

  more : (i : ℕ) → ((k : ℕ) → k < i → is_bad_seed bytes strings (nth bytes table k) ≡ false) → is_bad_seed bytes strings (nth bytes table i) ≡ false → (k : ℕ) → k < i + 1 → is_bad_seed bytes strings (nth bytes table k) ≡ false
  more i before here k below = elim (cases_eq k i) [
    | inl same ↦ ap (λ j. is_bad_seed bytes strings (nth bytes table j)) same ∙ here
    | inr other ↦ before k (omega arith)
  ]

  kept : (i : ℕ) → filter (is_seed_symbol bytes) (map (nth bytes table) (range_with_len 0 (i + 1))) ≡ filter (is_seed_symbol bytes) (map (nth bytes table) (range_with_len 0 i)) ++ cond (is_seed_symbol bytes (nth bytes table i)) (nth bytes table i ∷ []) []
  kept i = filter_of_map_range_with_len_more (is_seed_symbol bytes) (nth bytes table) 0 i i (omega arith)

  -- a symbol that is passed over
  pub passed-skip : (i : ℕ) (seeds : List Seed) → Passed bytes table strings i seeds → is_seed_symbol bytes (nth bytes table i) ≡ false → Passed bytes table strings (i + 1) seeds
  passed-skip i seeds before other =
      let old = filter (is_seed_symbol bytes) (map (nth bytes table) (range_with_len 0 i)) in
      let same : filter (is_seed_symbol bytes) (map (nth bytes table) (range_with_len 0 (i + 1))) ≡ old = kept i ∙ ap (λ b. old ++ cond b (nth bytes table i ∷ []) []) other ∙ append-nil old in
      record {
        good = more i before.good (and_left _ (is_bad_name (section_bytes bytes strings) strings.size (nth bytes table i)) other);
        each = subst (λ xs. AllZip (IsSeedOf bytes (section_bytes bytes strings)) xs seeds) (sym same) before.each;
      }

  -- a symbol that gives a seed
  pub passed-push : (i : ℕ) (seeds : List Seed) (x : Seed) → Passed bytes table strings i seeds → is_seed_symbol bytes (nth bytes table i) ≡ true → is_bad_name (section_bytes bytes strings) strings.size (nth bytes table i) ≡ false → IsSeedOf bytes (section_bytes bytes strings) (nth bytes table i) x → Passed bytes table strings (i + 1) (seeds ++ x ∷ [])
  passed-push i seeds x before one good seed =
      let old = filter (is_seed_symbol bytes) (map (nth bytes table) (range_with_len 0 i)) in
      let same : filter (is_seed_symbol bytes) (map (nth bytes table) (range_with_len 0 (i + 1))) ≡ old ++ nth bytes table i ∷ [] = kept i ∙ ap (λ b. old ++ cond b (nth bytes table i ∷ []) []) one in
      record {
        good = more i before.good (and_right (is_seed_symbol bytes (nth bytes table i)) _ good);
        each = subst (λ xs. AllZip (IsSeedOf bytes (section_bytes bytes strings)) xs (seeds ++ x ∷ [])) (sym same) (zip-push (IsSeedOf bytes (section_bytes bytes strings)) old seeds (nth bytes table i) x before.each seed);
      }

  -- the same of a symbol as it was read
  pub read-skip : (i : ℕ) (seeds : List Seed) (s : Symbol) → s ≡ nth bytes table i → Passed bytes table strings i seeds → is_seed_symbol bytes s ≡ false → Passed bytes table strings (i + 1) seeds
  read-skip i seeds s is before other = passed-skip i seeds before (ap (is_seed_symbol bytes) (sym is) ∙ other)

  pub read-push : (i : ℕ) (seeds : List Seed) (s : Symbol) (x : Seed) → s ≡ nth bytes table i → Passed bytes table strings i seeds → is_seed_symbol bytes s ≡ true → is_bad_name (section_bytes bytes strings) strings.size s ≡ false → IsSeedOf bytes (section_bytes bytes strings) s x → Passed bytes table strings (i + 1) (seeds ++ x ∷ [])
  read-push i seeds s x is before one good seed =
      passed-push i seeds x before (ap (is_seed_symbol bytes) (sym is) ∙ one)
      (ap (is_bad_name (section_bytes bytes strings) strings.size) (sym is) ∙ good)
      (subst (λ t. IsSeedOf bytes (section_bytes bytes strings) t x) is seed)

  -- all symbols, where the string table is the one that the header names
  module _ (is : strings ≡ section bytes table.link) (n : ℕ) (whole : n ≡ table.size / 24) where
    bad_names : has_bad_name_in bytes table ≡ list_any (is_bad_seed bytes strings) (map (nth bytes table) (range_with_len 0 n))
    unfolding seed_symbols_in
    bad_names =
        ap (λ (s : Section). list_any (is_bad_name (section_bytes bytes s) s.size) (seed_symbols_in bytes table)) (sym is)
        ∙ any-filter (is_seed_symbol bytes) (is_bad_name (section_bytes bytes strings) strings.size) (map (nth bytes table) (range_with_len 0 (table.size / 24)))
        ∙ ap (λ k. list_any (is_bad_seed bytes strings) (map (nth bytes table) (range_with_len 0 k))) (sym whole)

    pub all-good : (seeds : List Seed) → Passed bytes table strings n seeds → has_bad_name_in bytes table ≡ false
    all-good seeds passed = bad_names ∙ any-none (is_bad_seed bytes strings) (nth bytes table) n passed.good

    pub one-bad : (k : ℕ) → k < n → is_seed_symbol bytes (nth bytes table k) ≡ true → is_bad_name (section_bytes bytes strings) strings.size (nth bytes table k) ≡ true → has_bad_name_in bytes table ≡ true
    one-bad k below one bad = bad_names ∙ any-at (is_bad_seed bytes strings) (nth bytes table) n k below (and_from _ _ one bad)

    pub all-each : (seeds : List Seed) → Passed bytes table strings n seeds → AllZip (IsSeedOf bytes (strings_of bytes table)) (seed_symbols_in bytes table) seeds
    unfolding seed_symbols_in
    all-each seeds passed =
        let at_n = subst (λ (s : Section). AllZip (IsSeedOf bytes (section_bytes bytes s)) (filter (is_seed_symbol bytes) (map (nth bytes table) (range_with_len 0 n))) seeds) is passed.each in
        subst (λ k. AllZip (IsSeedOf bytes (strings_of bytes table)) (filter (is_seed_symbol bytes) (map (nth bytes table) (range_with_len 0 k))) seeds) whole at_n
