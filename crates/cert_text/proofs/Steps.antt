-- Steps of the loops that read fields.
use Rattle.std.proofs.Common.{◌≡◌, ℕ, zero, suc, ◌+◌, ◌-◌, ◌*◌, ◌^◌, ◌<◌, ◌≤◌, true, false, eqb, List, [], ◌∷◌, ◌++◌, length, get_or, take, drop, Option, Some, None, Bor, refl, sym, ap, subst, ◌∙◌, arith, add-one}
use Rattle.std.specs.Prelude.{MatchOption}
use Rattle.std.specs.Option.{option_map}
use Rattle.std.specs.Cmp.Lexicographic.{pointwise, bytes_decides}
use Rattle.std.proofs.Math.Nat.{pow-succ', pow-le-pow_right}
use Rattle.std.proofs.Math.Seq.{drop-cons}
use Rattle.std.proofs.lemmas.Bool.{both_ways, lt-ltb, le-ltb, cond-true, cond-false}
use Rattle.std.proofs.lemmas.List.{take_at, take-append-drop, drop_all, nil_from_length}
use Rattle.cert_text.specs.Reading.{◌>>=◌, after, hex_value, hex_from, is_digit, rank_from}
use Rattle.cert_text.proofs.Fields.{some, after_takes, after_again}

none_unless : {A : Type 0} (r : Option A) → ((x : A) → r ≡ Some x → ⊥) → r ≡ None
none_unless None never = refl
none_unless (Some x) never = absurd (never x refl)

after_found : (word bytes : List ℕ) → pointwise eqb (take (length word) bytes) word ≡ true → after word bytes ≡ Some (drop (length word) bytes)
after_found word bytes equal =
    let same : take (length word) bytes ≡ word = (bytes_decides (take (length word) bytes) word).0 equal in
    let parts : bytes ≡ word ++ drop (length word) bytes = sym (take-append-drop (length word) bytes) ∙ ap (λ (x : List ℕ). x ++ drop (length word) bytes) same in
    ap (after word) parts ∙ after_again word (drop (length word) bytes)

after_none : (word bytes : List ℕ) → pointwise eqb (take (length word) bytes) word ≡ false → after word bytes ≡ None
after_none word bytes other =
    none_unless (after word bytes) (λ rest e.
    let front : take (length word) bytes ≡ word = ap (take (length word)) (after_takes word bytes rest e) ∙ take_at word rest (length word) refl in
    both_ways (pointwise eqb (take (length word) bytes) word) other ((bytes_decides (take (length word) bytes) word).1 front))

pub is_after : (word bytes : List ℕ) (r : Option (Bor (List ℕ))) → MatchOption r (pointwise eqb (take (length word) bytes) word ≡ false) (λ x. (pointwise eqb (take (length word) bytes) word ≡ true) × (x.now ≡ drop (length word) bytes) × (length x.now + length word ≡ length bytes)) → option_map (λ s. s.now) r ≡ after word bytes
is_after word bytes None h = sym (after_none word bytes h)
is_after word bytes (Some x) h = ap some h.1 ∙ sym (after_found word bytes h.0)

-- ---- sixteen digits

pub hex_ends : (count value : ℕ) → 0 < count → hex_from count value [] ≡ None
unfolding hex_from
hex_ends zero value some = absurd (omega arith)
hex_ends (suc count) value some = refl

pub hex_fails : (count value b : ℕ) (bytes : List ℕ) → 0 < count → hex_value b ≡ None → hex_from count value (b ∷ bytes) ≡ None
unfolding hex_from
hex_fails zero value b bytes some e = absurd (omega arith)
hex_fails (suc count) value b bytes some e = ap (λ (r : Option ℕ). r >>= λ d. hex_from count (value * 16 + d) bytes) e

pub hex_goes_on : (count value b d : ℕ) (bytes : List ℕ) → hex_value b ≡ Some d → hex_from (suc count) value (b ∷ bytes) ≡ hex_from count (value * 16 + d) bytes
unfolding hex_from
hex_goes_on count value b d bytes e = ap (λ (r : Option ℕ). r >>= λ d. hex_from count (value * 16 + d) bytes) e

pub no_digit : (i value : ℕ) (rest : List ℕ) (all : Option (ℕ × List ℕ)) → i < 16 → length rest ≡ 0 → hex_from (16 - i) value rest ≡ all → all ≡ None
no_digit i value rest all inside empty e =
    let nothing : rest ≡ [] = nil_from_length rest empty in
    sym e ∙ ap (hex_from (16 - i) value) nothing ∙ hex_ends (16 - i) value (omega arith)

pub bad_digit : (i value b : ℕ) (rest others : List ℕ) (all : Option (ℕ × List ℕ)) → i < 16 → rest ≡ b ∷ others → hex_value b ≡ None → hex_from (16 - i) value rest ≡ all → all ≡ None
bad_digit i value b rest others all inside first bad e =
    sym e ∙ ap (hex_from (16 - i) value) first ∙ hex_fails (16 - i) value b others (omega arith) bad

pub next_digit : (i value b d : ℕ) (rest others : List ℕ) (all : Option (ℕ × List ℕ)) → i < 16 → rest ≡ b ∷ others → hex_value b ≡ Some d → hex_from (16 - i) value rest ≡ all → hex_from (16 - (i + 1)) (value * 16 + d) others ≡ all
next_digit i value b d rest others all inside first digit e =
    let count : 16 - i ≡ suc (16 - (i + 1)) = omega arith in
    sym (hex_goes_on (16 - (i + 1)) value b d others digit) ∙ ap (λ (k : ℕ). hex_from k value (b ∷ others)) (sym count) ∙ ap (hex_from (16 - i) value) (sym first) ∙ e

pub all_digits : (i value : ℕ) (rest : List ℕ) (all : Option (ℕ × List ℕ)) → 16 ≤ i → hex_from (16 - i) value rest ≡ all → some (value, rest) ≡ all
unfolding hex_from
all_digits i value rest all done e =
    let count : 16 - i ≡ 0 = omega arith in
    sym (ap (λ (k : ℕ). hex_from k value rest) count) ∙ e

pub hex_fits : (i value d : ℕ) → i < 16 → value < 16 ^ i → d < 16 → (value * 16 + d < 2 ^ 64) × (value * 16 + d < 16 ^ (i + 1))
hex_fits i value d inside small digit =
    let unit : 16 ^ suc i ≡ 16 * 16 ^ i = pow-succ' 16 i in
    let next : i + 1 ≡ suc i = add-one i in
    let below : value * 16 + d < 16 ^ suc i = omega arith in
    let most : 16 ^ suc i ≤ 16 ^ 16 = pow-le-pow_right {n = 16} (omega arith) {i = suc i} {j = 16} (omega arith) in
    (omega arith, subst (λ (k : ℕ). value * 16 + d < 16 ^ k) (sym next) below)

-- ---- a rank

front : (bytes : List ℕ) (i : ℕ) → i < length bytes → drop i bytes ≡ get_or bytes i 0 ∷ drop (i + 1) bytes
front bytes i inside = rw (add-one, drop-cons bytes i 0) refl

pub rank_stops : (value i : ℕ) (bytes : List ℕ) → i < length bytes → is_digit (get_or bytes i 0) ≡ false → rank_from value (drop i bytes) ≡ Some (value, drop i bytes)
unfolding rank_from
rank_stops value i bytes inside other =
    ap (rank_from value) (front bytes i inside) ∙ cond-false _ _ _ other ∙ ap (λ (x : List ℕ). some (value, x)) (sym (front bytes i inside))

pub rank_goes_on : (value i : ℕ) (bytes : List ℕ) → i < length bytes → is_digit (get_or bytes i 0) ≡ true → value * 10 + (get_or bytes i 0 - 48) < 2 ^ 64 → rank_from value (drop i bytes) ≡ rank_from (value * 10 + (get_or bytes i 0 - 48)) (drop (i + 1) bytes)
unfolding rank_from
rank_goes_on value i bytes inside digit small =
    ap (rank_from value) (front bytes i inside) ∙ cond-true _ _ _ digit ∙ cond-true _ _ _ (lt-ltb _ _ small)

pub rank_fails : (value i : ℕ) (bytes : List ℕ) → i < length bytes → is_digit (get_or bytes i 0) ≡ true → 2 ^ 64 ≤ value * 10 + (get_or bytes i 0 - 48) → rank_from value (drop i bytes) ≡ None
unfolding rank_from
rank_fails value i bytes inside digit large =
    ap (rank_from value) (front bytes i inside) ∙ cond-true _ _ _ digit ∙ cond-false _ _ _ (le-ltb _ _ large)

pub rank_is_done : (value : ℕ) (bytes : List ℕ) → rank_from value (drop (length bytes) bytes) ≡ Some (value, drop (length bytes) bytes)
unfolding rank_from
rank_is_done value bytes =
    let none : drop (length bytes) bytes ≡ [] = drop_all (length bytes) bytes (omega arith) in
    subst (λ (x : List ℕ). rank_from value x ≡ Some (value, x)) (sym none) refl
