-- A field that is read is the field that was written, and what was written is read again.
use Rattle.std.proofs.Common.{◌≡◌, ℕ, zero, suc, ◌+◌, ◌-◌, ◌*◌, ◌/◌, ◌%◌, ◌^◌, ◌<◌, ◌≤◌, Bool, true, false, cond, eqb, leb, ◌&&◌, List, [], ◌∷◌, ◌++◌, Option, Some, None, refl, sym, ap, subst, ◌∙◌, append_assoc, arith, inl, inr, ◌⊎◌, zero-add, add-zero}
use Rattle.std.specs.Prelude.{codes}
use Rattle.std.proofs.Math.Nat.{pow-succ'}
use Rattle.std.proofs.lemmas.Bool.{cases_lt, leb-true, le-leb, lt-leb, eqb-true, and_parts, and_from, and_right, cond_below, cond_above, cond-true, cond-false}
use Rattle.graph_report.specs.Number.{hex_digit, hex_digits, address_digits}
use Rattle.cert_text.specs.Line.{address_field}
use Rattle.cert_text.specs.Text.{IsWord}
use Rattle.cert_text.specs.Reading.{◌>>=◌, or_else, after, hex_value, hex_from, address_at, last_address_at}

-- the value of a step that gave one
pub bind_some : {A B : Type 0} (r : Option A) (f : A → Option B) (y : B) → (r >>= f) ≡ Some y → (x : A) × (r ≡ Some x) × (f x ≡ Some y)
bind_some None f y e = absurd cc
bind_some (Some x) f y e = (x, refl, e)

-- which of two forms it was
pub or_else_some : {A : Type 0} (r s : Option A) (y : A) → or_else r s ≡ Some y → (r ≡ Some y) ⊎ (s ≡ Some y)
or_else_some None s y e = inr e
or_else_some (Some x) s y e = inl e

-- a test that passed
pub cond_some : {A : Type 0} (b : Bool) (r : Option A) (y : A) → cond b r None ≡ Some y → (b ≡ true) × (r ≡ Some y)
cond_some true r y e = (refl, e)
cond_some false r y e = absurd cc

-- a choice by a test
pub cond_is : {A : Type 0} (b : Bool) (r s y : A) → cond b r s ≡ y → ((b ≡ true) × (r ≡ y)) ⊎ ((b ≡ false) × (s ≡ y))
cond_is true r s y e = inl (refl, e)
cond_is false r s y e = inr (refl, e)

abbrev pub some : {A : Type 0} → A → Option A
some x = Some x

pub some_is : {A : Type 0} (x y : A) → some x ≡ some y → x ≡ y
some_is x y e = cc

eqb-refl : (n : ℕ) → eqb n n ≡ true
eqb-refl n = grind arith

-- ---- words

pub after_takes : (word bytes rest : List ℕ) → after word bytes ≡ Some rest → bytes ≡ word ++ rest
unfolding after
after_takes [] bytes rest e = some_is bytes rest e
after_takes (c ∷ word) [] rest e = absurd cc
after_takes (c ∷ word) (b ∷ bytes) rest e =
    let g = cond_some (eqb b c) (after word bytes) rest e in
    let same : b ≡ c = eqb-true b c g.0 in
    let front : bytes ≡ word ++ rest = after_takes word bytes rest g.1 in
    rw (same, front) refl

pub after_again : (word rest : List ℕ) → after word (word ++ rest) ≡ Some rest
unfolding after
after_again [] rest = refl
after_again (c ∷ word) rest = rw (eqb-refl c) (after_again word rest)

-- ---- addresses

-- the value of a digit, and the digit of a value
pub value_digit : (b d : ℕ) → hex_value b ≡ Some d → (d < 16) × (hex_digit d ≡ b)
unfolding hex_value
value_digit b d e =
    elim (cond_is (leb 48 b && leb b 57) (Some (b - 48)) (cond (leb 97 b && leb b 102) (Some (b - 87)) None) (Some d) e) [
      | inl p ↦
          let t = and_parts (leb 48 b) (leb b 57) p.0 in
          let low : 48 ≤ b = leb-true 48 b t.0 in
          let high : b ≤ 57 = leb-true b 57 t.1 in
          let is : b - 48 ≡ d = some_is (b - 48) d p.1 in
          (omega arith, sym (cond_below d 10 (48 + d) (87 + d) (omega arith)) ∙ omega arith)
      | inr p ↦
          let q = cond_some (leb 97 b && leb b 102) (Some (b - 87)) d p.1 in
          let t = and_parts (leb 97 b) (leb b 102) q.0 in
          let low : 97 ≤ b = leb-true 97 b t.0 in
          let high : b ≤ 102 = leb-true b 102 t.1 in
          let is : b - 87 ≡ d = some_is (b - 87) d q.1 in
          (omega arith, sym (cond_above d 10 (48 + d) (87 + d) (87 + d) (omega arith) refl) ∙ omega arith)
    ]

digit_value : (d : ℕ) → d < 16 → hex_value (hex_digit d) ≡ Some d
unfolding hex_value
digit_value d small =
    elim (cases_lt d 10) [
      | inl lt ↦
          let digit : hex_digit d ≡ 48 + d = sym (cond_below d 10 (48 + d) (87 + d) lt) in
          let test : (leb 48 (48 + d) && leb (48 + d) 57) ≡ true = and_from _ _ (le-leb 48 (48 + d) (omega arith)) (le-leb (48 + d) 57 (omega arith)) in
          let value : 48 + d - 48 ≡ d = omega arith in
          ap hex_value digit ∙ cond-true _ _ _ test ∙ ap some value
      | inr ge ↦
          let digit : hex_digit d ≡ 87 + d = sym (cond_above d 10 (48 + d) (87 + d) (87 + d) ge refl) in
          let no : (leb 48 (87 + d) && leb (87 + d) 57) ≡ false = and_right _ _ (lt-leb (87 + d) 57 (omega arith)) in
          let test : (leb 97 (87 + d) && leb (87 + d) 102) ≡ true = and_from _ _ (le-leb 97 (87 + d) (omega arith)) (le-leb (87 + d) 102 (omega arith)) in
          let value : 87 + d - 87 ≡ d = omega arith in
          ap hex_value digit ∙ cond-false _ _ _ no ∙ cond-true _ _ _ test ∙ ap some value
    ]

hex_takes : (count k value : ℕ) (bytes : List ℕ) (n : ℕ) (rest : List ℕ) → hex_from count value bytes ≡ Some (n, rest) → value < 16 ^ k → (hex_digits k value ++ bytes ≡ hex_digits (k + count) n ++ rest) × (n < 16 ^ (k + count))
unfolding hex_from hex_digits
hex_takes zero k value bytes n rest e small =
    let same = some_is (value, bytes) (n, rest) e in
    subst (λ (p : ℕ × List ℕ). (hex_digits k value ++ bytes ≡ hex_digits (k + 0) p.0 ++ p.1) × (p.0 < 16 ^ (k + 0))) same (rw (add-zero k) refl, rw (add-zero k) small)
hex_takes (suc count) k value [] n rest e small = absurd cc
hex_takes (suc count) k value (b ∷ bytes) n rest e small =
    let step = bind_some (hex_value b) (λ d. hex_from count (value * 16 + d) bytes) (n, rest) e in
    let d = step.0 in
    let digit = value_digit b d step.1 in
    let unit : 16 ^ suc k ≡ 16 * 16 ^ k = pow-succ' 16 k in
    let below : value * 16 + d < 16 ^ suc k = omega (arith, digit.0) in
    let more = hex_takes count (suc k) (value * 16 + d) bytes n rest step.2 below in
    let up : (value * 16 + d) / 16 ≡ value = omega (arith, digit.0) in
    let last : (value * 16 + d) % 16 ≡ d = omega (arith, digit.0) in
    let front : hex_digits (suc k) (value * 16 + d) ++ bytes ≡ hex_digits k value ++ b ∷ bytes = rw (up, last, digit.1) (append_assoc (hex_digits k value) (b ∷ []) bytes) in
    let count_is : suc k + count ≡ k + suc count = omega arith in
    let goal_at : ℕ → Type 0 = λ m. (hex_digits k value ++ b ∷ bytes ≡ hex_digits m n ++ rest) × (n < 16 ^ m) in
    subst goal_at count_is (sym front ∙ more.0, more.1)

hex_again : (k count value n : ℕ) (rest : List ℕ) → n < 16 ^ k → hex_from (k + count) value (hex_digits k n ++ rest) ≡ hex_from count (value * 16 ^ k + n) rest
unfolding hex_from hex_digits
hex_again zero count value n rest small =
    let none : value * 16 ^ 0 + n ≡ value = omega arith in
    rw (zero-add count, none) refl
hex_again (suc k) count value n rest small =
    let unit : 16 ^ suc k ≡ 16 * 16 ^ k = pow-succ' 16 k in
    let up : n / 16 < 16 ^ k = omega (arith, unit) in
    let digit = digit_value (n % 16) (omega arith) in
    let more = hex_again k (suc count) value (n / 16) (hex_digit (n % 16) ∷ rest) up in
    let count_is : suc k + count ≡ k + suc count = omega arith in
    let scaled : value * (16 * 16 ^ k) ≡ 16 * (value * 16 ^ k) = omega arith in
    let value_is : (value * 16 ^ k + n / 16) * 16 + n % 16 ≡ value * 16 ^ suc k + n = rw (unit, scaled) (omega arith) in
    let last : hex_from (suc count) (value * 16 ^ k + n / 16) (hex_digit (n % 16) ∷ rest) ≡ hex_from count (value * 16 ^ suc k + n) rest = rw digit (rw value_is refl) in
    let regrouped : hex_digits (suc k) n ++ rest ≡ hex_digits k (n / 16) ++ hex_digit (n % 16) ∷ rest = append_assoc (hex_digits k (n / 16)) (hex_digit (n % 16) ∷ []) rest in
    rw (count_is, regrouped) (more ∙ last)

no_digits : (n : ℕ) → hex_digits 0 n ≡ []
unfolding hex_digits
no_digits n = refl

no_more : (value : ℕ) (bytes : List ℕ) → hex_from 0 value bytes ≡ Some (value, bytes)
unfolding hex_from
no_more value bytes = refl

after_space : (bytes : List ℕ) → after (codes " ") (codes " " ++ bytes) ≡ Some bytes
after_space bytes = after_again (codes " ") bytes

pub address_takes : (bytes : List ℕ) (n : ℕ) (rest : List ℕ) → address_at bytes ≡ Some (n, rest) → (bytes ≡ address_field n ++ rest) × IsWord n
unfolding address_at
address_takes bytes n rest e =
    let step = bind_some (after (codes " ") bytes) (λ digits. hex_from 16 0 digits) (n, rest) e in
    let front : bytes ≡ codes " " ++ step.0 = after_takes (codes " ") bytes step.0 step.1 in
    let more = hex_takes 16 0 0 step.0 n rest step.2 (omega arith) in
    let digits : step.0 ≡ address_digits n ++ rest = ap (λ (x : List ℕ). x ++ step.0) (sym (no_digits 0)) ∙ more.0 in
    (front ∙ ap (λ (x : List ℕ). codes " " ++ x) digits, more.1)

pub address_again : (n : ℕ) (rest : List ℕ) → IsWord n → address_at (address_field n ++ rest) ≡ Some (n, rest)
unfolding address_at
address_again n rest small =
    let spaced : after (codes " ") (address_field n ++ rest) ≡ Some (address_digits n ++ rest) = after_space (address_digits n ++ rest) in
    let digits : hex_from 16 0 (address_digits n ++ rest) ≡ hex_from 0 (0 * 16 ^ 16 + n) rest = hex_again 16 0 0 n rest small in
    let value : 0 * 16 ^ 16 + n ≡ n = omega arith in
    ap (λ (r : Option (List ℕ)). r >>= λ x. hex_from 16 0 x) spaced ∙ digits ∙ no_more (0 * 16 ^ 16 + n) rest ∙ ap (λ (v : ℕ). some (v, rest)) value

pub last_takes : (bytes : List ℕ) (n : ℕ) (rest : List ℕ) → last_address_at bytes ≡ Some (n, rest) → (bytes ≡ (address_field n ++ codes "\n") ++ rest) × IsWord n
unfolding last_address_at
last_takes bytes n rest e =
    let a = bind_some (address_at bytes) (λ address. after (codes "\n") address.1 >>= λ end. some (address.0, end)) (n, rest) e in
    let b = bind_some (after (codes "\n") a.0.1) (λ end. some (a.0.0, end)) (n, rest) a.2 in
    let field = address_takes bytes a.0.0 a.0.1 a.1 in
    let newline : a.0.1 ≡ codes "\n" ++ b.0 = after_takes (codes "\n") a.0.1 b.0 b.1 in
    let whole : bytes ≡ (address_field a.0.0 ++ codes "\n") ++ b.0 = field.0 ∙ ap (λ (x : List ℕ). address_field a.0.0 ++ x) newline ∙ sym (append_assoc (address_field a.0.0) (codes "\n") b.0) in
    subst (λ (p : ℕ × List ℕ). (bytes ≡ (address_field p.0 ++ codes "\n") ++ p.1) × IsWord p.0) (some_is (a.0.0, b.0) (n, rest) b.2) (whole, field.1)

pub last_again : (n : ℕ) (rest : List ℕ) → IsWord n → last_address_at ((address_field n ++ codes "\n") ++ rest) ≡ Some (n, rest)
unfolding last_address_at
last_again n rest small =
    let regrouped : (address_field n ++ codes "\n") ++ rest ≡ address_field n ++ (codes "\n" ++ rest) = append_assoc (address_field n) (codes "\n") rest in
    let field : address_at ((address_field n ++ codes "\n") ++ rest) ≡ Some (n, codes "\n" ++ rest) = ap address_at regrouped ∙ address_again n (codes "\n" ++ rest) small in
    ap (λ (r : Option (ℕ × List ℕ)). r >>= λ address. after (codes "\n") address.1 >>= λ end. some (address.0, end)) field ∙ ap (λ (r : Option (List ℕ)). r >>= λ end. some (n, end)) (after_again (codes "\n") rest)
