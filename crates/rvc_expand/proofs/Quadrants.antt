-- The rows of a quadrant hold of no halfword of another, so a halfword's expansion is that of its own
-- quadrant's rows.
use Rattle.std.proofs.Common.{◌≡◌, ◌≢◌, ℕ, Bool, true, false, cond, List, [], ◌∷◌, ◌++◌, Option, Some, None, refl, ◌∙◌, arith}
use Rattle.std.proofs.lemmas.Bool.{ne_eqb}
use Rattle.rvc_expand.specs.Bits.{field}
use Rattle.rvc_expand.specs.Laws.{NoneOfQuadrant3}
use Rattle.rvc_expand.specs.Table.{Form, first_word, quadrant_0, quadrant_1, quadrant_2, forms, expansion}

-- ---- joined lists of rows

keeps_none : (b : Bool) (w : ℕ) (rest : Option ℕ) → cond b (Some w) rest ≡ None → (b ≡ false) × (rest ≡ None)
keeps_none true w rest h = absurd cc
keeps_none false w rest h = (refl, h)

first_word-append_left : (xs ys : List Form) (h : ℕ) → first_word ys h ≡ None → first_word (xs ++ ys) h ≡ first_word xs h
first_word-append_left [] ys h none = none
first_word-append_left (x ∷ xs) ys h none = rw (first_word-append_left xs ys h none)

first_word-append_right : (xs ys : List Form) (h : ℕ) → first_word xs h ≡ None → first_word (xs ++ ys) h ≡ first_word ys h
first_word-append_right [] ys h none = refl
first_word-append_right (x ∷ xs) ys h none =
    let parts = keeps_none (x.holds h) (x.word h) (first_word xs h) none in
    rw (parts.0) (first_word-append_right xs ys h parts.1)

-- ---- a quadrant's rows elsewhere

pub outside_quadrant_0 : (h : ℕ) → field h 1 0 ≢ 0 → first_word quadrant_0 h ≡ None
unfolding quadrant_0
outside_quadrant_0 h other = rw (ne_eqb (field h 1 0) 0 other)

pub outside_quadrant_1 : (h : ℕ) → field h 1 0 ≢ 1 → first_word quadrant_1 h ≡ None
unfolding quadrant_1
outside_quadrant_1 h other = rw (ne_eqb (field h 1 0) 1 other)

pub outside_quadrant_2 : (h : ℕ) → field h 1 0 ≢ 2 → first_word quadrant_2 h ≡ None
unfolding quadrant_2
outside_quadrant_2 h other = rw (ne_eqb (field h 1 0) 2 other)

-- ---- the whole table

pub expansion-quadrant_0 : (h : ℕ) → field h 1 0 ≡ 0 → expansion h ≡ first_word quadrant_0 h
unfolding expansion forms
expansion-quadrant_0 h is =
    first_word-append_left (quadrant_0 ++ quadrant_1) quadrant_2 h (outside_quadrant_2 h (omega arith))
    ∙ first_word-append_left quadrant_0 quadrant_1 h (outside_quadrant_1 h (omega arith))

pub expansion-quadrant_1 : (h : ℕ) → field h 1 0 ≡ 1 → expansion h ≡ first_word quadrant_1 h
unfolding expansion forms
expansion-quadrant_1 h is =
    first_word-append_left (quadrant_0 ++ quadrant_1) quadrant_2 h (outside_quadrant_2 h (omega arith))
    ∙ first_word-append_right quadrant_0 quadrant_1 h (outside_quadrant_0 h (omega arith))

pub expansion-quadrant_2 : (h : ℕ) → field h 1 0 ≡ 2 → expansion h ≡ first_word quadrant_2 h
unfolding expansion forms
expansion-quadrant_2 h is =
    first_word-append_right (quadrant_0 ++ quadrant_1) quadrant_2 h
    (first_word-append_right quadrant_0 quadrant_1 h (outside_quadrant_0 h (omega arith))
    ∙ outside_quadrant_1 h (omega arith))

pub expansion-quadrant_3 : (h : ℕ) → field h 1 0 ≡ 3 → expansion h ≡ None
unfolding expansion forms
expansion-quadrant_3 h is =
    first_word-append_right (quadrant_0 ++ quadrant_1) quadrant_2 h
    (first_word-append_right quadrant_0 quadrant_1 h (outside_quadrant_0 h (omega arith))
    ∙ outside_quadrant_1 h (omega arith))
    ∙ outside_quadrant_2 h (omega arith)

pub none_of_quadrant_3 : NoneOfQuadrant3
none_of_quadrant_3 half is = expansion-quadrant_3 half is
