-- Texts that are read as they would be in lower case.
use Rattle.std.proofs.Common.{◌≡◌, ℕ, zero, suc, ◌+◌, ◌<◌, ◌≤◌, Bool, false, ◌&&◌, cond, List, [], ◌∷◌, length, get_or, take, drop, map, Some, None, eqb, ltb, refl, sym, ap, ◌∙◌, arith, inl, inr}
use Rattle.std.specs.Char.{is_ascii_digit, is_ascii_alphabetic, to_ascii_lowercase}
use Rattle.std.specs.List.{slice_split, onto_first, position, position_or_len, All}
use Rattle.std.specs.Prelude.{bytes_eq}
use Rattle.std.specs.Cmp.Lexicographic.{pointwise}
use Rattle.std.proofs.lemmas.Bool.{cases_Bool, and_right, cond-true, ltb-false}
use Rattle.std.proofs.lemmas.List.{take_all}
use Rattle.std.proofs.lemmas.List.Quantifiers.{position-Some}
use Rattle.std.proofs.lemmas.List.Splits.{slice_split_first, slice_split_none}
use Rattle.std.proofs.lemmas.List.Sums.{position_or_len_is, fails_before_first}
use Rattle.std.proofs.lemmas.Bool.Decides.{nat_tests}
use Rattle.elf_image.specs.Architecture as spec
use Rattle.elf_image.specs.Inner.Architecture.{lower}

-- what a byte is does not depend on its case
pub digit-lower : (c : ℕ) → is_ascii_digit (to_ascii_lowercase c) ≡ is_ascii_digit c
digit-lower c = grind (arith, nat_tests)

pub letter-lower : (c : ℕ) → spec.is_letter (to_ascii_lowercase c) ≡ is_ascii_alphabetic c
letter-lower c = grind (arith, nat_tests)

under-lower : (c : ℕ) → eqb (to_ascii_lowercase c) 0x5F ≡ eqb c 0x5F
under-lower c = grind (arith, nat_tests)

-- whether a text begins with a word, byte by byte
pub begins-step : (word text : List ℕ) (i : ℕ) → i < length word → length word ≤ length text → spec.begins (drop i word) (drop i (lower text)) ≡ (eqb (get_or word i 0) (to_ascii_lowercase (get_or text i 0)) && spec.begins (drop (suc i) word) (drop (suc i) (lower text)))
begins-step [] text i within long = absurd (omega arith)
begins-step (c ∷ word) [] i within long = absurd (omega arith)
begins-step (c ∷ word) (t ∷ text) zero within long = refl
begins-step (c ∷ word) (t ∷ text) (suc i) within long = begins-step word text i (omega arith) (omega arith)

-- a text of a word's length that begins with it is the word
pub begins-whole : (word text : List ℕ) → length text ≡ length word → spec.begins word text ≡ bytes_eq word text
begins-whole word text long = ap (pointwise eqb word) (take_all (length word) text (omega arith))

pub differs-length : (word text : List ℕ) → (length text ≡ length word → ⊥) → bytes_eq word text ≡ false
differs-length [] [] other = absurd (other refl)
differs-length [] (t ∷ text) other = refl
differs-length (c ∷ word) [] other = refl
differs-length (c ∷ word) (t ∷ text) other =
    and_right (eqb c t) (bytes_eq word text) (differs-length word text (λ e. other (omega arith)))

-- the parts of a text in lower case
onto_first-lower : (c : ℕ) (parts : List (List ℕ)) → onto_first (to_ascii_lowercase c) (map lower parts) ≡ map lower (onto_first c parts)
onto_first-lower c [] = refl
onto_first-lower c (part ∷ parts) = refl

pub split-lower : (text : List ℕ) → slice_split (λ c. eqb c 0x5F) (lower text) ≡ map lower (slice_split (λ c. eqb c 0x5F) text)
split-lower [] = refl
split-lower (c ∷ cs) =
    elim (cases_Bool (eqb c 0x5F)) [
      | inl under ↦ rw (under-lower c, under) (ap (λ parts. [] ∷ parts) (split-lower cs))
      | inr other ↦ rw (under-lower c, other) (ap (onto_first (to_ascii_lowercase c)) (split-lower cs) ∙ onto_first-lower c (slice_split (λ d. eqb d 0x5F) cs))
    ]

-- a text with a part that ends, and one that is a part
pub split-at : (text : List ℕ) (end : ℕ) → position (λ c. eqb c 0x5F) text ≡ Some end → slice_split (λ c. eqb c 0x5F) (lower text) ≡ lower (take end text) ∷ slice_split (λ c. eqb c 0x5F) (lower (drop (end + 1) text))
split-at text end at =
    let found = position-Some (λ c. eqb c 0x5F) text end 0 at in
    let place : position_or_len (λ c. eqb c 0x5F) text ≡ end = position_or_len_is (λ c. eqb c 0x5F) text end 0 (omega (arith, found.0)) found.2 (λ within. found.1) in
    let within : position_or_len (λ c. eqb c 0x5F) text < length text = omega (arith, found.0, place) in
    split-lower text ∙ ap (map lower) (slice_split_first (λ c. eqb c 0x5F) text 0 within)
    ∙ ap (λ i. lower (take i text) ∷ map lower (slice_split (λ c. eqb c 0x5F) (drop (i + 1) text))) place
    ∙ ap (λ parts. lower (take end text) ∷ parts) (sym (split-lower (drop (end + 1) text)))

position-None : (p : ℕ → Bool) (text : List ℕ) → position p text ≡ None → All (λ c. p c ≡ false) text
position-None p text none k d below =
    fails_before_first p text k d (omega (arith, past (position_or_len p text) (length text) none))
  where
    past : (i n : ℕ) → cond (ltb i n) (Some i) None ≡ None → n ≤ i
    past i n e = elim (cases_Bool (ltb i n)) [
      | inl within ↦ absurd (differ i (sym (cond-true _ (Some i) None within) ∙ e))
      | inr outside ↦ ltb-false i n outside
    ]
      where
        differ : (i : ℕ) → Some i ≡ None → ⊥
        differ i e = cc

pub split-whole : (text : List ℕ) → position (λ c. eqb c 0x5F) text ≡ None → slice_split (λ c. eqb c 0x5F) (lower text) ≡ lower text ∷ []
split-whole text none = split-lower text ∙ ap (map lower) (slice_split_none (λ c. eqb c 0x5F) text (position-None (λ c. eqb c 0x5F) text none))
