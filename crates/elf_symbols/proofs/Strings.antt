-- A string in a string table, and the place of the zero byte that ends it.
use Rattle.std.proofs.Common.{◌≡◌, ℕ, ◌+◌, ◌<◌, Bool, true, false, not, cond, ltb, eqb, List, [], ◌∷◌, length, take, drop, refl, sym, ap, ◌∙◌, arith, inl, inr, Option, Some, None, is_none}
use Rattle.std.specs.List.{list_any, position, prefix_len, take_while}
use Rattle.std.proofs.lemmas.Bool.{cases_Bool, cases_lt, lt-ltb, le-ltb, ltb-true, cond-true}
use Rattle.std.proofs.lemmas.Bool.Decides.{nat_tests}
use Rattle.std.proofs.lemmas.List.{drop_all, length-drop, length-take-le}
use Rattle.std.proofs.lemmas.Option.{cond_some}
use Rattle.elf_image.specs.declared.section.Section.{Section}
use Rattle.elf_image.specs.FaultTests.{is_bad_name}
use Rattle.elf_image.specs.Symbols.{Symbol, section_bytes, string_at}
use Rattle.elf_image.specs.Seeds.{has_bytes}
use Rattle.elf_symbols.specs.Inner.Tables.{IsInFile}
use Rattle.elf_symbols.specs.Inner.Symbols.{as_name}
use Rattle.elf_symbols.proofs.Parts.{bytes_of_part}

abbrev pub is_zero : ℕ → Bool
is_zero b = eqb b 0

-- some zero byte is one at a place
any_place : (xs : List ℕ) → list_any is_zero xs ≡ ltb (prefix_len (λ b. not (is_zero b)) xs) (length xs)
any_place [] = refl
any_place (x ∷ xs) =
    let rest = any_place xs in
    elim (cases_Bool (is_zero x)) [
      | inl is ↦ rw is (sym (lt-ltb 0 (length (x ∷ xs)) (omega arith)))
      | inr not ↦ rw not (grind (arith, nat_tests))
    ]

none_of : {X : Type 0} (b : Bool) (x : X) → is_none (cond b (Some x) None) ≡ not b
none_of true x = refl
none_of false x = refl

pub position-none : (xs : List ℕ) → is_none (position is_zero xs) ≡ not (list_any is_zero xs)
position-none xs = none_of _ _ ∙ ap not (sym (any_place xs))

-- a name is bad where no place of a zero byte is found behind its offset
pub bad_name-position : (strings : List ℕ) (s : Symbol) → is_bad_name strings (length strings) s ≡ is_none (position is_zero (drop s.name strings))
bad_name-position strings s =
    elim (cases_lt s.name (length strings)) [
      | inl below ↦ rw (lt-ltb s.name (length strings) below) (sym (position-none (drop s.name strings)))
      | inr past ↦ rw (le-ltb s.name (length strings) past, drop_all s.name strings past) refl
    ]

-- a text without a byte, and one with some
pub has-none : (xs : List ℕ) → length xs ≡ 0 → has_bytes xs ≡ false
has-none [] h = refl
has-none (x ∷ xs) h = absurd (omega arith)

pub has-some : (xs : List ℕ) → 0 < length xs → has_bytes xs ≡ true
has-some [] h = absurd (omega arith)
has-some (x ∷ xs) h = refl

-- what the place of the first zero byte says of a string
pub position-found : (xs : List ℕ) (n : ℕ) → Some n ≡ position is_zero xs → (n < length xs) × (take_while (λ b. not (is_zero b)) xs ≡ take n xs)
position-found xs n found =
    let parts = cond_some (ltb (prefix_len (λ b. not (is_zero b)) xs) (length xs)) (prefix_len (λ b. not (is_zero b)) xs) n (sym found) in
    let below = ltb-true _ _ parts.0 in
    (omega (arith, below, parts.1), ap (λ k. take k xs) parts.1)

module _ (bytes : List ℕ) (s : Section) (within : IsInFile bytes s) where
  length-section_bytes : length (section_bytes bytes s) ≡ s.size
  length-section_bytes = length-take-le s.size (drop s.offset bytes) (omega (arith, length-drop s.offset bytes, within.within))

  -- a name is bad where the search for its end finds nothing
  pub bad_from_search : (strings : List ℕ) → strings ≡ section_bytes bytes s → (x : Symbol) (o : Option ℕ) → o ≡ position is_zero (drop x.name strings) → is_none o ≡ is_bad_name (section_bytes bytes s) s.size x
  bad_from_search strings is x o found =
      ap is_none found ∙ ap (λ part. is_none (position is_zero (drop x.name part))) is
      ∙ sym (bad_name-position (section_bytes bytes s) x)
      ∙ ap (λ n. is_bad_name (section_bytes bytes s) n x) length-section_bytes

  -- where it ends, it stands in the file
  pub string-found : (strings : List ℕ) → strings ≡ section_bytes bytes s → (at n : ℕ) → Some n ≡ position is_zero (drop at strings) → (at + n < s.size) × (string_at (section_bytes bytes s) at ≡ take n (drop (s.offset + at) bytes))
  string-found strings is at n found =
      let found' : Some n ≡ position is_zero (drop at (section_bytes bytes s)) = found ∙ ap (λ part. position is_zero (drop at part)) is in
      let place = position-found (drop at (section_bytes bytes s)) n found' in
      let below : at + n < s.size = omega (arith, place.0, length-drop at (section_bytes bytes s), length-section_bytes) in
      (below, place.1 ∙ bytes_of_part bytes s.offset s.size at n (omega arith))

  length-string : (at n : ℕ) → at + n < s.size → length (take n (drop (s.offset + at) bytes)) ≡ n
  length-string at n below = length-take-le n (drop (s.offset + at) bytes) (omega (arith, length-drop (s.offset + at) bytes, within.within))

  -- an empty string is no name
  pub no_name : (strings : List ℕ) → strings ≡ section_bytes bytes s → (at n : ℕ) → Some n ≡ position is_zero (drop at strings) → n ≡ 0 → None ≡ as_name (string_at (section_bytes bytes s) at)
  no_name strings is at n found none =
      let it = string-found strings is at n found in
      let empty : has_bytes (string_at (section_bytes bytes s) at) ≡ false = ap has_bytes it.1 ∙ has-none (take n (drop (s.offset + at) bytes)) (length-string at n it.0 ∙ none) in
      rw empty refl

  -- another is
  pub a_name : (strings : List ℕ) → strings ≡ section_bytes bytes s → (at n : ℕ) → Some n ≡ position is_zero (drop at strings) → 0 < n → Some (take n (drop (s.offset + at) bytes)) ≡ as_name (string_at (section_bytes bytes s) at)
  a_name strings is at n found some =
      let it = string-found strings is at n found in
      let full : has_bytes (take n (drop (s.offset + at) bytes)) ≡ true = has-some (take n (drop (s.offset + at) bytes)) (omega (arith, length-string at n it.0)) in
      sym (ap as_name it.1 ∙ cond-true (has_bytes (take n (drop (s.offset + at) bytes))) (Some (take n (drop (s.offset + at) bytes))) None full)
