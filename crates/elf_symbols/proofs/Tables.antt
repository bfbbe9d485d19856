-- Symbol tables among the sections of a file.
use Rattle.std.proofs.Common.{◌≡◌, ℕ, ◌+◌, ◌<◌, ◌≤◌, Bool, true, false, ◌||◌, cond, nat_lt, List, [], ◌∷◌, map, length, get_or, refl, sym, ap, ◌∙◌, arith, inl, inr, Some, None, Result, Ok, Err, OnOk, IfErr}
use Rattle.std.specs.List.{filter, find, list_any, range_with_len}
use Rattle.std.specs.Option.{option_map_or}
use Rattle.std.proofs.lemmas.Bool.{cases_Bool, or_left, lt-ltb}
use Rattle.std.proofs.lemmas.List.{length-append}
use Rattle.std.proofs.lemmas.List.FromFn.{filter_of_map_range_with_len_more}
use Rattle.elf_image.specs.declared.section.Section.{Section}
use Rattle.elf_image.specs.Header.{section_count}
use Rattle.elf_image.specs.Sections.{section, sections, is_symbol_table}
use Rattle.elf_image.specs.Symbols.{symbol_table, symbol_tables}
use Rattle.elf_image.specs.declared.fault.Fault.TheVariants.{SymbolTable, SymbolName}
use Rattle.elf_image.specs.declared.fault.Fault.TheVariants as fault
use Rattle.elf_image.specs.declared.fault.ElfError.{ElfError}
use Rattle.elf_image.specs.declared.fault.ElfError.TheVariants.{Malformed, Memory}
use Rattle.elf_image.specs.Outcome.{IfMalformed}
use Rattle.elf_symbols.specs.declared.table.SymbolTable.{SymbolTable as Tables}
use Rattle.elf_symbols.specs.Inner.Tables.{IsTableOf}
use Rattle.elf_image.specs.FaultTests.{is_bad_symbol_table, has_bad_symbol_table, has_bad_name_in, has_bad_symbol_name}
use Rattle.elf_image.specs.Faults.{has_fault, first_among, first_symbol_fault, first_fault, IsImage}
use Rattle.elf_image.proofs.FirstFault.{first-from_symbols}
use Rattle.elf_image.proofs.Finds.{find-at, find-none}
use Rattle.elf_image.proofs.Ranges.{any-none, length-sections, get_or-sections}

one : (b : Bool) (x : Section) → length (cond b (x ∷ []) []) ≡ cond b 1 0
one true x = refl
one false x = refl

-- one more section
pub count_more : (f : ℕ → Section) (i : ℕ) → length (filter is_symbol_table (map f (range_with_len 0 (i + 1)))) ≡ length (filter is_symbol_table (map f (range_with_len 0 i))) + cond (is_symbol_table (f i)) 1 0
count_more f i =
    ap length (filter_of_map_range_with_len_more is_symbol_table f 0 i i (omega arith))
    ∙ length-append (filter is_symbol_table (map f (range_with_len 0 i))) (cond (is_symbol_table (f i)) (f i ∷ []) [])
    ∙ ap (λ n. length (filter is_symbol_table (map f (range_with_len 0 i))) + n) (one (is_symbol_table (f i)) (f i))

-- the section at i is the first symbol table
pub first_at : (bytes : List ℕ) (i : ℕ) → i < section_count bytes → ((k : ℕ) → k < i → is_symbol_table (section bytes k) ≡ false) → is_symbol_table (section bytes i) ≡ true → symbol_table bytes ≡ Some (section bytes i)
first_at bytes i within before here =
    let s = section bytes i in
    let at : get_or (sections bytes) i s ≡ s = get_or-sections bytes i s within in
    find-at is_symbol_table (sections bytes) i s (omega (arith, length-sections bytes))
    (λ k below. ap is_symbol_table (get_or-sections bytes k s (omega arith)) ∙ before k below)
    (ap is_symbol_table at ∙ here)
    ∙ ap Some at

pub no_table : (bytes : List ℕ) (n : ℕ) → n ≡ section_count bytes → ((k : ℕ) → k < n → is_symbol_table (section bytes k) ≡ false) → symbol_table bytes ≡ None
unfolding sections
no_table bytes n is none =
    find-none is_symbol_table (sections bytes)
    (any-none is_symbol_table (section bytes) (section_count bytes) (λ k below. none k (omega arith)))

-- the first that passes, and how many do
head_of : (p : Section → Bool) (xs : List Section) → find p xs ≡ None → filter p xs ≡ []
head_of p [] none = refl
head_of p (x ∷ xs) none = elim (cases_Bool (p x)) [
  | inl passes ↦ absurd (cc (rw passes at none))
  | inr fails ↦ rw fails (head_of p xs (rw fails at none))
]

nil : (xs : List Section) → length xs ≡ 0 → xs ≡ []
nil [] e = refl
nil (x ∷ xs) e = absurd (omega arith)

only : (p : Section → Bool) (xs : List Section) (s : Section) → length (filter p xs) ≤ 1 → find p xs ≡ Some s → filter p xs ≡ s ∷ []
only p [] s few found = absurd (cc)
only p (x ∷ xs) s few found = elim (cases_Bool (p x)) [
  | inl passes ↦
      let same : Some x ≡ Some s = rw passes at found in
      let few' = rw passes at few in
      rw (passes, nil (filter p xs) (omega arith)) (cc)
  | inr fails ↦ rw fails (only p xs s (rw fails at few) (rw fails at found))
]

pub none_of_tables : (bytes : List ℕ) → symbol_table bytes ≡ None → symbol_tables bytes ≡ []
unfolding symbol_tables
none_of_tables bytes none = head_of is_symbol_table (sections bytes) none

pub one_of_tables : (bytes : List ℕ) (s : Section) → length (symbol_tables bytes) ≤ 1 → symbol_table bytes ≡ Some s → symbol_tables bytes ≡ s ∷ []
unfolding symbol_tables
one_of_tables bytes s few found = only is_symbol_table (sections bytes) s few found

or_no : (b : Bool) → (b || false) ≡ b
or_no true = refl
or_no false = refl

module _ (bytes : List ℕ) where
  -- two symbol tables are a fault, and none is no fault
  pub bad-many : 1 < length (symbol_tables bytes) → has_fault bytes SymbolTable ≡ true
  unfolding has_fault has_bad_symbol_table
  bad-many many = or_left _ (list_any (is_bad_symbol_table bytes) (symbol_tables bytes)) (lt-ltb 1 (length (symbol_tables bytes)) many)

  pub good-none : symbol_table bytes ≡ None → has_fault bytes SymbolTable ≡ false
  unfolding has_fault has_bad_symbol_table
  good-none none = ap (λ ts. nat_lt 1 (length ts) || list_any (is_bad_symbol_table bytes) ts) (none_of_tables bytes none)

  -- one is judged by itself
  pub judged-one : (s : Section) → length (symbol_tables bytes) ≤ 1 → symbol_table bytes ≡ Some s → has_fault bytes SymbolTable ≡ is_bad_symbol_table bytes s
  unfolding has_fault has_bad_symbol_table
  judged-one s few found =
      ap (λ ts. nat_lt 1 (length ts) || list_any (is_bad_symbol_table bytes) ts) (one_of_tables bytes s few found)
      ∙ or_no (is_bad_symbol_table bytes s)

  -- the first fault of the two
  pub first-table : has_fault bytes SymbolTable ≡ true → first_symbol_fault bytes ≡ Some SymbolTable
  unfolding first_symbol_fault first_among
  first-table bad = rw bad refl

  pub first-name : has_fault bytes SymbolTable ≡ false → has_fault bytes SymbolName ≡ true → first_symbol_fault bytes ≡ Some SymbolName
  unfolding first_symbol_fault first_among
  first-name good bad = rw (good, bad) refl

  pub first-none : has_fault bytes SymbolTable ≡ false → has_fault bytes SymbolName ≡ false → first_symbol_fault bytes ≡ None
  unfolding first_symbol_fault first_among
  first-none good good' = rw (good, good') refl

  -- the names of the symbols, where there is a table and where there is none
  pub names-of_table : (s : Section) → symbol_table bytes ≡ Some s → has_fault bytes SymbolName ≡ has_bad_name_in bytes s
  unfolding has_fault has_bad_symbol_name
  names-of_table s found = ap (λ o. option_map_or (has_bad_name_in bytes) o false) found

  pub names-no_table : symbol_table bytes ≡ None → has_fault bytes SymbolName ≡ false
  unfolding has_fault has_bad_symbol_name
  names-no_table none = ap (λ o. option_map_or (has_bad_name_in bytes) o false) none

  -- the judgement of a table's names, in an answer
  pub good-of_table : {X : Type 0} (r : Result X ElfError) (t : Tables) → IsTableOf bytes t → has_fault bytes fault.SymbolTable ≡ false → OnOk r (has_bad_name_in bytes t.symbols ≡ false) → OnOk r (first_symbol_fault bytes ≡ None)
  good-of_table (Ok v) t is good names = first-none good (names-of_table t.symbols is.symbols ∙ names)
  good-of_table (Err e) t is good names = tt

  named : (e : ElfError) (t : Tables) → IsTableOf bytes t → has_fault bytes fault.SymbolTable ≡ false → IfMalformed e (λ f. (f ≡ SymbolName) × (has_bad_name_in bytes t.symbols ≡ true)) → IfMalformed e (λ f. first_symbol_fault bytes ≡ Some f)
  named (Malformed f) t is good it = first-name good (names-of_table t.symbols is.symbols ∙ it.1) ∙ ap Some (sym it.0)
  named Memory t is good it = tt

  pub bad-of_table : {X : Type 0} (r : Result X ElfError) (t : Tables) → IsTableOf bytes t → has_fault bytes fault.SymbolTable ≡ false → IfErr r (λ e. IfMalformed e (λ f. (f ≡ SymbolName) × (has_bad_name_in bytes t.symbols ≡ true))) → IfErr r (λ e. IfMalformed e (λ f. first_symbol_fault bytes ≡ Some f))
  bad-of_table (Ok v) t is good it = tt
  bad-of_table (Err e) t is good it = named e t is good it

  -- the first fault of the symbols of an accepted file is its first fault
  pub bad-of_image : IsImage bytes → (e : ElfError) → IfMalformed e (λ f. first_symbol_fault bytes ≡ Some f) → IfMalformed e (λ f. first_fault bytes ≡ Some f)
  bad-of_image image (Malformed f) it = first-from_symbols bytes image ∙ it
  bad-of_image image Memory it = tt
