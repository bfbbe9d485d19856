-- The symbols of a made file, as they are read.
use Rattle.std.proofs.Common.{◌≡◌, ℕ, zero, suc, ◌+◌, ◌*◌, ◌/◌, ◌<◌, ◌^◌, ◌%◌, Bool, true, false, ◌||◌, List, [], ◌∷◌, ◌++◌, map, length, take, drop, get_or, Some, refl, ap, sym, ◌∙◌, arith, inl, inr, eqb, ltb, replicate}
use Rattle.std.specs.List.{filter, flat_map, list_any, range_with_len, All}
use Rattle.std.proofs.lemmas.Bool.{cases_Bool, lt-ltb, eq-eqb, or_parts}
use Rattle.std.proofs.lemmas.List.{append_assoc, get_or-drop, length-append, length-drop, take_at}
use Rattle.std.proofs.lemmas.List.Folds.{list_any-append}
use Rattle.std.proofs.lemmas.List.FromFn.{fill_by_all}
use Rattle.byteorder.specs.Numbers.{little_number-reads_back}
use Rattle.elf_image.specs.declared.section.Section.{Section}
use Rattle.elf_image.specs.Number.{u32_at}
use Rattle.elf_image.specs.Header as header
use Rattle.elf_image.specs.Sections.{section}
use Rattle.elf_image.specs.Symbols as symbols
use Rattle.elf_image.specs.Symbols.{Symbol, symbol_at}
use Rattle.elf_image.specs.FaultTests.{is_bad_name, is_bad_symbol_table}
use Rattle.elf_maker.specs.declared.parts.Parts.{Parts}
use Rattle.elf_maker.specs.declared.parts.MadeSymbol.{MadeSymbol}
use Rattle.elf_maker.specs.Fields.{halves, words, xwords}
use Rattle.elf_maker.specs.Symbols.{symbol_entry, symbol_entries, terminated_name, has_symbols, symbol_table, string_table}
use Rattle.elf_maker.specs.Sections.{code_header, symbols_header, strings_header, symbol_headers, section_headers, symbols_place}
use Rattle.elf_maker.specs.MadeFile.{made_file}
use Rattle.elf_maker.specs.Given.{is_code_given}
use Rattle.elf_maker.proofs.Sizes.{length-symbol_entry, length-symbol_entries, five_sections, strings_within}
use Rattle.elf_maker.proofs.Places.{half-field, word-field, xword-field, drop-next, padded-append, at_symbols, at_strings, behind_symbols}
use Rattle.elf_maker.proofs.Fitting.{AreFit}
use Rattle.elf_maker.proofs.ReadSections.{as_read}
use Rattle.elf_maker.proofs.MadeSections.{sections_made, section_made, count_made}

-- the first symbol, of zero bytes, and the symbol of a function
pub null_symbol : Symbol
null_symbol = record { name = 0; info = 0; section = 0; value = 0 }

unfoldable pub made_symbol : ℕ → ℕ → Symbol
made_symbol name address = record { name = name; info = 0x12; section = 1; value = address }

-- the symbols whose names stand from an offset on
abbrev pub made_symbols : ℕ → List MadeSymbol → List Symbol
made_symbols name [] = []
made_symbols name (s ∷ ss) = made_symbol name s.address ∷ made_symbols (name + length (terminated_name s)) ss

pub length-made_symbols : (name : ℕ) (ss : List MadeSymbol) → length (made_symbols name ss) ≡ length ss
length-made_symbols name [] = refl
length-made_symbols name (s ∷ ss) = ap suc (length-made_symbols (name + length (terminated_name s)) ss)

abbrev symbol_of : (n i s v : ℕ) → Symbol
symbol_of n i s v = record { name = n; info = i; section = s; value = v }

same_symbol : (n n' i i' s s' v v' : ℕ) → n ≡ n' → i ≡ i' → s ≡ s' → v ≡ v' → symbol_of n i s v ≡ symbol_of n' i' s' v'
same_symbol n n' i i' s s' v v' name info sec value = rw (name, info, sec, value) refl

-- a symbol that stands at a place is read there
symbol_at-is : (bytes rest : List ℕ) (at name address : ℕ) → name < 2 ^ 32 → address < 2 ^ 64 → drop at bytes ≡ symbol_entry name address ++ rest → symbol_at bytes at ≡ made_symbol name address
unfolding symbol_at symbol_entry halves words xwords made_symbol
symbol_at-is bytes rest at name address name_fits address_fits stands =
    let here = symbol_entry name address ++ rest in
    let e : at ≡ at + 0 = omega arith in
    same_symbol _ name _ 0x12 _ 1 _ address
    (ap (u32_at bytes) e ∙ word-field 0 at name bytes here stands (little_number-reads_back 4 name [] (omega arith)))
    (sym (get_or-drop at bytes 4 0) ∙ ap (λ xs. get_or xs 4 0) stands)
    (half-field 6 at 1 bytes here stands refl)
    (xword-field 8 at address bytes here stands (little_number-reads_back 8 address [] (omega arith)))

null_symbol-is : (bytes rest : List ℕ) (at : ℕ) → drop at bytes ≡ replicate 24 0 ++ rest → symbol_at bytes at ≡ null_symbol
unfolding symbol_at null_symbol
null_symbol-is bytes rest at stands =
    let here = replicate 24 0 ++ rest in
    let e : at ≡ at + 0 = omega arith in
    same_symbol _ 0 _ 0 _ 0 _ 0
    (ap (u32_at bytes) e ∙ word-field 0 at 0 bytes here stands refl)
    (sym (get_or-drop at bytes 4 0) ∙ ap (λ xs. get_or xs 4 0) stands)
    (half-field 6 at 0 bytes here stands refl)
    (xword-field 8 at 0 bytes here stands refl)

-- so are all of a table
symbols-at : (bytes rest : List ℕ) (at name : ℕ) (ss : List MadeSymbol) → All (λ s. s.address < 2 ^ 64) ss → name + length (flat_map terminated_name ss) < 2 ^ 32 → drop at bytes ≡ symbol_entries name ss ++ rest → (k : ℕ) → k < length ss → symbol_at bytes (at + 24 * k) ≡ get_or (made_symbols name ss) k null_symbol
unfolding symbol_entries
symbols-at bytes rest at name [] fit names stands k within = absurd (omega arith)
symbols-at bytes rest at name (s ∷ ss) fit names stands zero within =
    let e : at + 24 * 0 ≡ at = omega arith in
    ap (symbol_at bytes) e
    ∙ symbol_at-is bytes (symbol_entries (name + length (terminated_name s)) ss ++ rest) at name s.address (omega arith) (fit 0 s (omega arith))
    (stands ∙ append_assoc (symbol_entry name s.address) (symbol_entries (name + length (terminated_name s)) ss) rest)
symbols-at bytes rest at name (s ∷ ss) fit names stands (suc k) within =
    let here = stands ∙ append_assoc (symbol_entry name s.address) (symbol_entries (name + length (terminated_name s)) ss) rest in
    let next = drop-next at 24 bytes (symbol_entry name s.address) (symbol_entries (name + length (terminated_name s)) ss ++ rest) here (length-symbol_entry name s.address) in
    let e : at + 24 * suc k ≡ at + 24 + 24 * k = omega arith in
    ap (symbol_at bytes) e
    ∙ symbols-at bytes rest (at + 24) (name + length (terminated_name s)) ss (λ i d below. fit (suc i) d (omega arith))
    (omega (arith, names, length-append (terminated_name s) (flat_map terminated_name ss))) next k (omega arith)

-- every name ends in the string table
names-end : (strings : List ℕ) (name : ℕ) (ss : List MadeSymbol) → drop name strings ≡ flat_map terminated_name ss → list_any (is_bad_name strings (length strings)) (made_symbols name ss) ≡ false
unfolding made_symbol
names-end strings name [] stands = refl
names-end strings name (s ∷ ss) stands =
    let rest = flat_map terminated_name ss in
    let size : length (drop name strings) ≡ length (terminated_name s) + length rest = ap length stands ∙ length-append (terminated_name s) rest in
    let some : length (terminated_name s) ≡ length s.name + 1 = length-append s.name (0 ∷ []) in
    let inside : ltb name (length strings) ≡ true = lt-ltb name (length strings) (omega (arith, size, some, length-drop name strings)) in
    let ends : list_any (λ b. eqb b 0) (drop name strings) ≡ true =
    ap (list_any (λ b. eqb b 0)) stands ∙ list_any-append (λ b. eqb b 0) (terminated_name s) rest
    ∙ ap (λ x. x || list_any (λ b. eqb b 0) rest) (list_any-append (λ b. eqb b 0) s.name (0 ∷ []) ∙ last (list_any (λ b. eqb b 0) s.name)) in
    let next = drop-next name (length (terminated_name s)) strings (terminated_name s) rest stands refl in
    rw (inside, ends, names-end strings (name + length (terminated_name s)) ss next) refl
  where
    last : (x : Bool) → (x || true) ≡ true
    last true = refl
    last false = refl

-- a test that no element passes, and no element that is kept
none-kept : {X : Type 0} (p q : X → Bool) (xs : List X) → list_any p xs ≡ false → list_any p (filter q xs) ≡ false
none-kept p q [] none = refl
none-kept p q (x ∷ xs) none =
    let parts = or_parts (p x) (list_any p xs) none in
    elim (cases_Bool (q x)) [
      | inl keeps ↦ rw (keeps, parts.0, none-kept p q xs parts.1) refl
      | inr drops ↦ rw (drops, none-kept p q xs parts.1) refl
    ]

-- a file with symbols
module _ (parts : Parts) (fit : AreFit parts) (some : has_symbols parts.symbols ≡ true) where
  abbrev table : Section
  table = as_read (symbols_header parts)

  string_table-is : string_table parts.symbols ≡ 0 ∷ flat_map terminated_name parts.symbols
  unfolding string_table
  string_table-is = rw some refl

  symbol_table-is : symbol_table parts.symbols ≡ replicate 24 0 ++ symbol_entries 1 parts.symbols
  unfolding symbol_table
  symbol_table-is = rw some refl

  size-is : length (symbol_table parts.symbols) ≡ 24 * suc (length parts.symbols)
  size-is =
      ap length symbol_table-is ∙ length-append (replicate 24 0) (symbol_entries 1 parts.symbols)
      ∙ omega (arith, length-symbol_entries 1 parts.symbols)

  stands : drop (symbols_place parts) (made_file parts) ≡ replicate 24 0 ++ (symbol_entries 1 parts.symbols ++ behind_symbols parts)
  stands =
      at_symbols parts ∙ ap (λ xs. xs ++ behind_symbols parts) symbol_table-is
      ∙ append_assoc (replicate 24 0) (symbol_entries 1 parts.symbols) (behind_symbols parts)

  names_fit : 1 + length (flat_map terminated_name parts.symbols) < 2 ^ 32
  names_fit = let e = ap length string_table-is in omega (arith, e, strings_within parts, fit.small)

  at_each : (k : ℕ) → k < suc (length parts.symbols) → get_or (null_symbol ∷ made_symbols 1 parts.symbols) k null_symbol ≡ symbol_at (made_file parts) (symbols_place parts + 24 * k)
  at_each zero within =
      let e : symbols_place parts ≡ symbols_place parts + 24 * 0 = omega arith in
      sym (null_symbol-is (made_file parts) (symbol_entries 1 parts.symbols ++ behind_symbols parts) (symbols_place parts) stands)
      ∙ ap (symbol_at (made_file parts)) e
  at_each (suc k) within =
      let e : symbols_place parts + 24 + 24 * k ≡ symbols_place parts + 24 * suc k = omega arith in
      let next = drop-next (symbols_place parts) 24 (made_file parts) (replicate 24 0) (symbol_entries 1 parts.symbols ++ behind_symbols parts) stands refl in
      sym (symbols-at (made_file parts) (behind_symbols parts) (symbols_place parts + 24) 1 parts.symbols fit.addresses names_fit next k (omega arith))
      ∙ ap (symbol_at (made_file parts)) e

  -- the symbols of the table
  pub symbols_made : symbols.symbols_in (made_file parts) table ≡ null_symbol ∷ made_symbols 1 parts.symbols
  symbols_made =
      let n : length (symbol_table parts.symbols) / 24 ≡ suc (length parts.symbols) = omega (arith, size-is) in
      ap (λ m. map (λ i. symbol_at (made_file parts) (symbols_place parts + 24 * i)) (range_with_len 0 m)) n
      ∙ sym (fill_by_all (λ i. symbol_at (made_file parts) (symbols_place parts + 24 * i)) (null_symbol ∷ made_symbols 1 parts.symbols) (suc (length parts.symbols)) null_symbol (ap suc (length-made_symbols 1 parts.symbols)) at_each)

  -- its string table
  pub strings_section : section (made_file parts) 4 ≡ as_read (strings_header parts)
  unfolding section_headers symbol_headers
  strings_section =
      section_made parts fit 4 (let e = five_sections parts some in omega arith)
      ∙ rw some refl

  pub strings_made : symbols.strings_of (made_file parts) table ≡ string_table parts.symbols
  strings_made =
      ap (symbols.section_bytes (made_file parts)) strings_section
      ∙ ap (λ xs. take (length (string_table parts.symbols)) xs) (at_strings parts ∙ padded-append (string_table parts.symbols) _)
      ∙ take_at (string_table parts.symbols) _ (length (string_table parts.symbols)) refl

  pub table_found : symbols.symbol_table (made_file parts) ≡ Some table
  unfolding symbol_headers
  table_found = rw (sections_made parts fit, some) refl

  pub tables_kept : symbols.symbol_tables (made_file parts) ≡ table ∷ []
  unfolding symbol_headers symbols.symbol_tables
  tables_kept = rw (sections_made parts fit, some) refl

  -- the table is right
  pub table_is_right : is_bad_symbol_table (made_file parts) table ≡ false
  table_is_right =
      let whole : eqb (length (symbol_table parts.symbols) % 24) 0 ≡ true = eq-eqb (length (symbol_table parts.symbols) % 24) 0 (omega (arith, size-is)) in
      let count : header.section_count (made_file parts) ≡ 5 = count_made parts fit ∙ five_sections parts some in
      rw (whole, count, strings_section) refl

  -- a symbol that was given is a seed symbol exactly at a code address
  code_section_here : section (made_file parts) 1 ≡ as_read (code_header parts)
  unfolding section_headers
  code_section_here = section_made parts fit 1 (let e = five_sections parts some in omega arith)

  pub seed_symbol-is : (name address : ℕ) → symbols.is_seed_symbol (made_file parts) (made_symbol name address) ≡ is_code_given parts address
  unfolding made_symbol symbols.is_seed_symbol
  seed_symbol-is name address =
      let count : header.section_count (made_file parts) ≡ 5 = count_made parts fit ∙ five_sections parts some in
      rw (count, code_section_here) refl

  pub null-is_no_seed : symbols.is_seed_symbol (made_file parts) null_symbol ≡ false
  unfolding null_symbol symbols.is_seed_symbol
  null-is_no_seed = refl

  pub seed_symbols_made : symbols.seed_symbols_in (made_file parts) table ≡ filter (symbols.is_seed_symbol (made_file parts)) (made_symbols 1 parts.symbols)
  unfolding symbols.seed_symbols_in
  seed_symbols_made = rw (symbols_made, null-is_no_seed) refl

  -- no name of a seed symbol is bad
  pub names_are_right : list_any (is_bad_name (symbols.strings_of (made_file parts) table) (section (made_file parts) 4).size) (symbols.seed_symbols_in (made_file parts) table) ≡ false
  names_are_right =
      let first : drop 1 (string_table parts.symbols) ≡ flat_map terminated_name parts.symbols = ap (drop 1) string_table-is in
      rw (strings_made, strings_section, seed_symbols_made)
      (none-kept (is_bad_name (string_table parts.symbols) (length (string_table parts.symbols))) (symbols.is_seed_symbol (made_file parts)) (made_symbols 1 parts.symbols) (names-end (string_table parts.symbols) 1 parts.symbols first))
