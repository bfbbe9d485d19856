-- No two rows of the table hold of one halfword, and what follows for the word of the first that does.
use Rattle.std.proofs.Common.{◌≡◌, ◌≢◌, ℕ, zero, suc, ◌+◌, ◌≤◌, Bool, true, false, ◌++◌, List, [], ◌∷◌, slice_get, count_by, cond, Some, None, refl, sym, subst, ap, ◌∙◌, inl, inr, zero-add, arith}
use Rattle.std.proofs.lemmas.Bool.{cases_eq, ne_eqb, false_from_ne_true}
use Rattle.std.proofs.lemmas.Bool.Decides.{nat_tests}
use Rattle.std.proofs.lemmas.List.Sums.{sum_by-append}
use Rattle.rvc_expand.specs.Bits.{field}
use Rattle.rvc_expand.specs.Table.{Form, quadrant_0, quadrant_1, quadrant_2, forms, first_word, expansion}
use Rattle.rvc_expand.specs.Laws.{AtMostOneFormHolds, AFormDecides, EachComesFromAForm, NoneWhereNoFormHolds}

abbrev count_of : List Form → ℕ → ℕ
count_of rows h = count_by (λ row. row.holds h) rows

-- ---- a quadrant's rows elsewhere

none_of_quadrant_0 : (h : ℕ) → field h 1 0 ≢ 0 → count_of quadrant_0 h ≡ 0
unfolding quadrant_0
none_of_quadrant_0 h other = rw (ne_eqb (field h 1 0) 0 other)

none_of_quadrant_1 : (h : ℕ) → field h 1 0 ≢ 1 → count_of quadrant_1 h ≡ 0
unfolding quadrant_1
none_of_quadrant_1 h other = rw (ne_eqb (field h 1 0) 1 other)

none_of_quadrant_2 : (h : ℕ) → field h 1 0 ≢ 2 → count_of quadrant_2 h ≡ 0
unfolding quadrant_2
none_of_quadrant_2 h other = rw (ne_eqb (field h 1 0) 2 other)

-- ---- a quadrant's own rows

one_of_quadrant_0 : (h : ℕ) → field h 1 0 ≡ 0 → count_of quadrant_0 h ≤ 1
unfolding quadrant_0
one_of_quadrant_0 h is = rw is (grind (arith, nat_tests))

one_of_quadrant_1 : (h : ℕ) → field h 1 0 ≡ 1 → count_of quadrant_1 h ≤ 1
unfolding quadrant_1
one_of_quadrant_1 h is = rw is (grind (arith, nat_tests))

one_of_quadrant_2 : (h : ℕ) → field h 1 0 ≡ 2 → count_of quadrant_2 h ≤ 1
unfolding quadrant_2
one_of_quadrant_2 h is = rw is (grind (arith, nat_tests))

-- ---- the whole table

count_of-forms : (h : ℕ) → count_of forms h ≡ count_of quadrant_0 h + count_of quadrant_1 h + count_of quadrant_2 h
unfolding forms
count_of-forms h =
    let value : Form → ℕ = λ row. cond (row.holds h) 1 0 in
    sum_by-append value (quadrant_0 ++ quadrant_1) quadrant_2
    ∙ ap (λ n. n + count_of quadrant_2 h) (sum_by-append value quadrant_0 quadrant_1)

one_of_forms : (h : ℕ) → count_of forms h ≤ 1
one_of_forms h =
    elim (cases_eq (field h 1 0) 0) [
      | inl at_0 ↦ omega (arith, count_of-forms h, one_of_quadrant_0 h at_0, none_of_quadrant_1 h (omega arith), none_of_quadrant_2 h (omega arith))
      | inr not_0 ↦ elim (cases_eq (field h 1 0) 1) [
        | inl at_1 ↦ omega (arith, count_of-forms h, none_of_quadrant_0 h not_0, one_of_quadrant_1 h at_1, none_of_quadrant_2 h (omega arith))
        | inr not_1 ↦ elim (cases_eq (field h 1 0) 2) [
          | inl at_2 ↦ omega (arith, count_of-forms h, none_of_quadrant_0 h not_0, none_of_quadrant_1 h not_1, one_of_quadrant_2 h at_2)
          | inr not_2 ↦ omega (arith, count_of-forms h, none_of_quadrant_0 h not_0, none_of_quadrant_1 h not_1, none_of_quadrant_2 h not_2)
        ]
      ]
    ]

-- ---- a list of rows of which at most one holds

abbrev one_if : Bool → ℕ
one_if b = cond b 1 0

count_of-cons : (x : Form) (xs : List Form) (h : ℕ) → count_of (x ∷ xs) h ≡ one_if (x.holds h) + count_of xs h
count_of-cons x xs h = sum_by-append (λ row. cond (row.holds h) 1 0) (x ∷ []) xs ∙ ap (λ n. n + count_of xs h) (zero-add _)

counted : (xs : List Form) (h i : ℕ) (f : Form) → slice_get xs i ≡ Some f → f.holds h ≡ true → 1 ≤ count_of xs h
counted [] h i f at held = cc
counted (x ∷ xs) h zero f at held =
    let same : x ≡ f = cc in
    let head : one_if (x.holds h) ≡ 1 = ap (λ (y : Form). one_if (y.holds h)) same ∙ ap one_if held in
    omega (arith, count_of-cons x xs h, head)
counted (x ∷ xs) h (suc i) f at held = omega (arith, count_of-cons x xs h, counted xs h i f at held)

-- where a later row holds, the first does not
first_fails : (x : Form) (xs : List Form) (h i : ℕ) (f : Form) → count_of (x ∷ xs) h ≤ 1 → slice_get xs i ≡ Some f → f.holds h ≡ true → x.holds h ≡ false
first_fails x xs h i f one at held =
    let later = counted xs h i f at held in
    let split = count_of-cons x xs h in
    false_from_ne_true (x.holds h) (λ here. omega (arith, later, split, one, ap one_if here))

rest_one : (x : Form) (xs : List Form) (h : ℕ) → count_of (x ∷ xs) h ≤ 1 → count_of xs h ≤ 1
rest_one x xs h one = omega (arith, count_of-cons x xs h)

one_place : (xs : List Form) (h i j : ℕ) (f g : Form) → count_of xs h ≤ 1 → slice_get xs i ≡ Some f → slice_get xs j ≡ Some g → f.holds h ≡ true → g.holds h ≡ true → i ≡ j
one_place [] h i j f g one at_i at_j f_holds g_holds = cc
one_place (x ∷ xs) h zero zero f g one at_i at_j f_holds g_holds = refl
one_place (x ∷ xs) h zero (suc j) f g one at_i at_j f_holds g_holds =
    let same : x ≡ f = cc in
    let fails = first_fails x xs h j g one at_j g_holds in
    absurd (cc (ap (λ (y : Form). y.holds h) same))
one_place (x ∷ xs) h (suc i) zero f g one at_i at_j f_holds g_holds =
    let same : x ≡ g = cc in
    let fails = first_fails x xs h i f one at_i f_holds in
    absurd (cc (ap (λ (y : Form). y.holds h) same))
one_place (x ∷ xs) h (suc i) (suc j) f g one at_i at_j f_holds g_holds =
    ap suc (one_place xs h i j f g (rest_one x xs h one) at_i at_j f_holds g_holds)

decides : (xs : List Form) (h i : ℕ) (f : Form) → count_of xs h ≤ 1 → slice_get xs i ≡ Some f → f.holds h ≡ true → first_word xs h ≡ Some (f.word h)
decides [] h i f one at held = cc
decides (x ∷ xs) h zero f one at held =
    let same : x ≡ f = cc in
    subst (λ (y : Form). first_word (y ∷ xs) h ≡ Some (f.word h)) (sym same) (rw held)
decides (x ∷ xs) h (suc i) f one at held =
    rw (first_fails x xs h i f one at held) (decides xs h i f (rest_one x xs h one) at held)

-- ---- any list of rows

abbrev ComesFrom : List Form → ℕ → ℕ → Type 0
ComesFrom xs h w = (i : ℕ) × (f : Form) × (slice_get xs i ≡ Some f) × (f.holds h ≡ true) × (w ≡ f.word h)

comes_from_step : (b : Bool) (x : Form) (xs : List Form) (h w : ℕ) → x.holds h ≡ b → cond b (Some (x.word h)) (first_word xs h) ≡ Some w → (first_word xs h ≡ Some w → ComesFrom xs h w) → ComesFrom (x ∷ xs) h w
comes_from_step true x xs h w is e later = (0, x, refl, is, cc)
comes_from_step false x xs h w is e later =
    let found = later e in (suc found.0, found.1, found.2, found.3, found.4)

comes_from : (xs : List Form) (h w : ℕ) → first_word xs h ≡ Some w → ComesFrom xs h w
comes_from [] h w e = cc
comes_from (x ∷ xs) h w e = comes_from_step (x.holds h) x xs h w refl e (comes_from xs h w)

none_holds_step : (b : Bool) (x : Form) (xs : List Form) (h : ℕ) → cond b (Some (x.word h)) (first_word xs h) ≡ None → (b ≡ false) × (first_word xs h ≡ None)
none_holds_step true x xs h e = cc
none_holds_step false x xs h e = (refl, e)

none_holds : (xs : List Form) (h i : ℕ) (f : Form) → first_word xs h ≡ None → slice_get xs i ≡ Some f → f.holds h ≡ false
none_holds [] h i f e at = cc
none_holds (x ∷ xs) h zero f e at =
    let same : x ≡ f = cc in
    ap (λ (y : Form). y.holds h) (sym same) ∙ (none_holds_step (x.holds h) x xs h e).0
none_holds (x ∷ xs) h (suc i) f e at = none_holds xs h i f (none_holds_step (x.holds h) x xs h e).1 at

none_from : (xs : List Form) (h : ℕ) → ((i : ℕ) (f : Form) → slice_get xs i ≡ Some f → f.holds h ≡ false) → first_word xs h ≡ None
none_from [] h fails = refl
none_from (x ∷ xs) h fails = rw (fails 0 x refl) (none_from xs h (λ i f at. fails (suc i) f at))

-- ---- the laws

pub at_most_one_form_holds : AtMostOneFormHolds
at_most_one_form_holds half i j f g at_i at_j f_holds g_holds =
    one_place forms half i j f g (one_of_forms half) at_i at_j f_holds g_holds

pub a_form_decides : AFormDecides
unfolding expansion
a_form_decides half i f at held = decides forms half i f (one_of_forms half) at held

pub each_comes_from_a_form : EachComesFromAForm
unfolding expansion
each_comes_from_a_form half word e = comes_from forms half word e

pub none_where_no_form_holds : NoneWhereNoFormHolds
unfolding expansion
none_where_no_form_holds half = (λ e i f at. none_holds forms half i f e at, λ fails. none_from forms half fails)
