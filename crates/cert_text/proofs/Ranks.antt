-- A rank that is read is the rank that was written, and what was written is read again.
use Rattle.std.proofs.Common.{◌≡◌, ℕ, ◌+◌, ◌-◌, ◌*◌, ◌/◌, ◌%◌, ◌^◌, ◌<◌, ◌≤◌, true, false, cond, eqb, ltb, leb, List, [], ◌∷◌, ◌++◌, Option, Some, None, refl, sym, ap, subst, ◌∙◌, append_assoc, arith, inl, inr, eq-zero-or-pos}
use Rattle.std.specs.Prelude.{codes, decimal}
use Rattle.std.proofs.lemmas.Bool.{ltb-true, lt-ltb, leb-true, le-leb, eqb-true, eqb-false, ne_eqb, and_parts, and_from, cond-true, cond-false}
use Rattle.std.proofs.lemmas.Fmt.{decimal_step, decimal_digit, decimal_by_steps}
use Rattle.cert_text.specs.Text.{IsWord}
use Rattle.cert_text.specs.Reading.{◌>>=◌, after, is_digit, rank_from, digits_at, rank_at}
use Rattle.cert_text.proofs.Fields.{bind_some, cond_some, cond_is, some_is, after_takes, after_again}

rank_takes : (bytes : List ℕ) (value n : ℕ) (rest : List ℕ) → rank_from value bytes ≡ Some (n, rest) → 0 < value → IsWord value → (decimal value ++ bytes ≡ decimal n ++ rest) × IsWord n
unfolding rank_from
rank_takes [] value n rest e pos small =
    subst (λ (p : ℕ × List ℕ). (decimal value ++ [] ≡ decimal p.0 ++ p.1) × IsWord p.0) (some_is (value, []) (n, rest) e) (refl, small)
rank_takes (b ∷ bytes) value n rest e pos small =
    let next = value * 10 + (b - 48) in
    elim (cond_is (is_digit b) (cond (ltb next (2 ^ 64)) (rank_from next bytes) None) (Some (value, b ∷ bytes)) (Some (n, rest)) e) [
      | inl p ↦
          let q = cond_some (ltb next (2 ^ 64)) (rank_from next bytes) (n, rest) p.1 in
          let below : next < 2 ^ 64 = ltb-true next (2 ^ 64) q.0 in
          let t = and_parts (leb 48 b) (leb b 57) p.0 in
          let low : 48 ≤ b = leb-true 48 b t.0 in
          let high : b ≤ 57 = leb-true b 57 t.1 in
          let two : 10 ≤ next = omega arith in
          let step = decimal_step next two below in
          let up : next / 10 ≡ value = omega arith in
          let last : 48 + next % 10 ≡ b = omega arith in
          let parts : decimal (next / 10) ++ ((48 + next % 10) ∷ []) ≡ decimal value ++ b ∷ [] = ap (λ (v : ℕ). decimal v ++ ((48 + next % 10) ∷ [])) up ∙ ap (λ (v : ℕ). decimal value ++ v ∷ []) last in
          let front : decimal next ++ bytes ≡ decimal value ++ b ∷ bytes = ap (λ (x : List ℕ). x ++ bytes) (step ∙ parts) ∙ append_assoc (decimal value) (b ∷ []) bytes in
          let more = rank_takes bytes next n rest q.1 (omega arith) below in
          (sym front ∙ more.0, more.1)
      | inr p ↦
          subst (λ (p : ℕ × List ℕ). (decimal value ++ b ∷ bytes ≡ decimal p.0 ++ p.1) × IsWord p.0) (some_is (value, b ∷ bytes) (n, rest) p.1) (refl, small)
    ]

digits_takes : (bytes : List ℕ) (n : ℕ) (rest : List ℕ) → digits_at bytes ≡ Some (n, rest) → (bytes ≡ decimal n ++ rest) × IsWord n
unfolding digits_at
digits_takes [] n rest e = absurd cc
digits_takes (b ∷ bytes) n rest e =
    elim (cond_is (eqb b 48) (Some (0, bytes)) (cond (is_digit b) (rank_from (b - 48) bytes) None) (Some (n, rest)) e) [
      | inl p ↦
          let same : b ≡ 48 = eqb-true b 48 p.0 in
          let none : decimal 0 ≡ 48 ∷ [] = decimal_digit 0 (omega arith) in
          let front : b ∷ bytes ≡ decimal 0 ++ bytes = ap (λ (v : ℕ). v ∷ bytes) same ∙ ap (λ (x : List ℕ). x ++ bytes) (sym none) in
          subst (λ (p : ℕ × List ℕ). (b ∷ bytes ≡ decimal p.0 ++ p.1) × IsWord p.0) (some_is (0, bytes) (n, rest) p.1) (front, omega arith)
      | inr p ↦
          let q = cond_some (is_digit b) (rank_from (b - 48) bytes) (n, rest) p.1 in
          let t = and_parts (leb 48 b) (leb b 57) q.0 in
          let low : 48 ≤ b = leb-true 48 b t.0 in
          let high : b ≤ 57 = leb-true b 57 t.1 in
          let no_zero : b ≡ 48 → ⊥ = eqb-false b 48 p.0 in
          let pos : 0 < b - 48 = omega arith in
          let digit : decimal (b - 48) ≡ (48 + (b - 48)) ∷ [] = decimal_digit (b - 48) (omega arith) in
          let same : 48 + (b - 48) ≡ b = omega arith in
          let front : decimal (b - 48) ++ bytes ≡ b ∷ bytes = ap (λ (x : List ℕ). x ++ bytes) digit ∙ ap (λ (v : ℕ). v ∷ bytes) same in
          let more = rank_takes bytes (b - 48) n rest q.1 pos (omega arith) in
          (sym front ∙ more.0, more.1)
    ]

-- digits of a number, read from the left, are that number
abbrev IsReadAs : ℕ → List ℕ → Type 0
IsReadAs n digits = IsWord n → 0 < n → (rest : List ℕ) → digits_at (digits ++ rest) ≡ rank_from n rest

one_digit : (n : ℕ) → n < 10 → IsReadAs n ((48 + n) ∷ [])
unfolding digits_at
one_digit n digit small pos rest =
    let other : eqb (48 + n) 48 ≡ false = ne_eqb (48 + n) 48 (λ e. omega arith) in
    let test : is_digit (48 + n) ≡ true = and_from _ _ (le-leb 48 (48 + n) (omega arith)) (le-leb (48 + n) 57 (omega arith)) in
    let value : 48 + n - 48 ≡ n = omega arith in
    cond-false _ _ _ other ∙ cond-true _ _ _ test ∙ ap (λ (v : ℕ). rank_from v rest) value

goes_on : (n : ℕ) (rest : List ℕ) → IsWord n → rank_from (n / 10) ((48 + n % 10) ∷ rest) ≡ rank_from n rest
unfolding rank_from
goes_on n rest small =
    let test : is_digit (48 + n % 10) ≡ true = and_from _ _ (le-leb 48 (48 + n % 10) (omega arith)) (le-leb (48 + n % 10) 57 (omega arith)) in
    let value : n / 10 * 10 + (48 + n % 10 - 48) ≡ n = omega arith in
    let fits : ltb (n / 10 * 10 + (48 + n % 10 - 48)) (2 ^ 64) ≡ true = lt-ltb _ _ (omega arith) in
    cond-true _ _ _ test ∙ cond-true _ _ _ fits ∙ ap (λ (v : ℕ). rank_from v rest) value

more_digits : (n : ℕ) (digits : List ℕ) → 10 ≤ n → IsReadAs (n / 10) digits → IsReadAs n (digits ++ ((48 + n % 10) ∷ []))
more_digits n digits two before small pos rest =
    ap digits_at (append_assoc digits ((48 + n % 10) ∷ []) rest)
    ∙ before (omega arith) (omega arith) ((48 + n % 10) ∷ rest)
    ∙ goes_on n rest small

rank_ends : (n : ℕ) (rest : List ℕ) → rank_from n (32 ∷ rest) ≡ Some (n, 32 ∷ rest)
unfolding rank_from
rank_ends n rest = refl

zero_again : (rest : List ℕ) → digits_at (decimal 0 ++ rest) ≡ Some (0, rest)
unfolding digits_at
zero_again rest = ap (λ (x : List ℕ). digits_at (x ++ rest)) (decimal_digit 0 (omega arith))

digits_again : (n : ℕ) (rest : List ℕ) → IsWord n → digits_at (decimal n ++ 32 ∷ rest) ≡ Some (n, 32 ∷ rest)
digits_again n rest small =
    elim (eq-zero-or-pos n) [
      | inl z ↦ subst (λ (m : ℕ). digits_at (decimal m ++ 32 ∷ rest) ≡ Some (m, 32 ∷ rest)) (sym z) (zero_again (32 ∷ rest))
      | inr pos ↦ decimal_by_steps IsReadAs one_digit more_digits n small small pos (32 ∷ rest) ∙ rank_ends n rest
    ]

pub rank_at_takes : (bytes : List ℕ) (n : ℕ) (rest : List ℕ) → rank_at bytes ≡ Some (n, rest) → (bytes ≡ codes " " ++ (decimal n ++ rest)) × IsWord n
unfolding rank_at
rank_at_takes bytes n rest e =
    let step = bind_some (after (codes " ") bytes) digits_at (n, rest) e in
    let digits = digits_takes step.0 n rest step.2 in
    (after_takes (codes " ") bytes step.0 step.1 ∙ ap (λ (x : List ℕ). codes " " ++ x) digits.0, digits.1)

-- every reason begins with a space
pub rank_at_again : (n : ℕ) (rest : List ℕ) → IsWord n → rank_at (codes " " ++ (decimal n ++ 32 ∷ rest)) ≡ Some (n, 32 ∷ rest)
unfolding rank_at
rank_at_again n rest small =
    ap (λ (r : Option (List ℕ)). r >>= digits_at) (after_again (codes " ") (decimal n ++ 32 ∷ rest)) ∙ digits_again n rest small
