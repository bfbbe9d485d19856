-- No word is an instruction of both tables, and no halfword expands by both.
use Rattle.std.proofs.Common.{◌≡◌, ◌≢◌, ℕ, None, refl, arith}
use Rattle.std.proofs.lemmas.Bool.Decides.{nat_tests}
use Rattle.rv_decode.specs.Fields.{opcode}
use Rattle.rv_decode.proofs.ByOpcode.{opcode_none}
use Rattle.rvc_expand.specs.Bits.{field}
use Rattle.rvc_expand.specs.Table.{expansion, forms, quadrant_0, quadrant_1, quadrant_2}
use Rattle.rv_float.specs.Table.{float_instruction}
use Rattle.rv_float.specs.Forms.{float_expansion, float_forms}
use Rattle.rv_float.specs.Laws.{TablesAreApart, FormsAreApart}
use Rattle.rv_float.proofs.ByOpcode.{other_is}

-- a float instruction's opcode is none of another value
elsewhere : (w o : ℕ) → o ≢ 0x07 → o ≢ 0x27 → o ≢ 0x43 → o ≢ 0x47 → o ≢ 0x4B → o ≢ 0x4F → o ≢ 0x53 → opcode w ≡ o → float_instruction w ≡ None
elsewhere w o a b c d e f g is = other_is w (rw is a) (rw is b) (rw is c) (rw is d) (rw is e) (rw is f) (rw is g)

pub tables_are_apart : TablesAreApart
tables_are_apart w found is =
    let not : (o : ℕ) → o ≢ 0x07 → o ≢ 0x27 → o ≢ 0x43 → o ≢ 0x47 → o ≢ 0x4B → o ≢ 0x4F → o ≢ 0x53 → opcode w ≢ o
    = λ o a b c d e f g at. cc (elsewhere w o a b c d e f g at) in
    let ne : (a b : ℕ) → a ≢ b → a ≢ b = λ a b h. h in
    opcode_none w
    (not 0x37 (omega arith) (omega arith) (omega arith) (omega arith) (omega arith) (omega arith) (omega arith))
    (not 0x17 (omega arith) (omega arith) (omega arith) (omega arith) (omega arith) (omega arith) (omega arith))
    (not 0x6F (omega arith) (omega arith) (omega arith) (omega arith) (omega arith) (omega arith) (omega arith))
    (not 0x67 (omega arith) (omega arith) (omega arith) (omega arith) (omega arith) (omega arith) (omega arith))
    (not 0x63 (omega arith) (omega arith) (omega arith) (omega arith) (omega arith) (omega arith) (omega arith))
    (not 0x03 (omega arith) (omega arith) (omega arith) (omega arith) (omega arith) (omega arith) (omega arith))
    (not 0x23 (omega arith) (omega arith) (omega arith) (omega arith) (omega arith) (omega arith) (omega arith))
    (not 0x13 (omega arith) (omega arith) (omega arith) (omega arith) (omega arith) (omega arith) (omega arith))
    (not 0x1B (omega arith) (omega arith) (omega arith) (omega arith) (omega arith) (omega arith) (omega arith))
    (not 0x33 (omega arith) (omega arith) (omega arith) (omega arith) (omega arith) (omega arith) (omega arith))
    (not 0x3B (omega arith) (omega arith) (omega arith) (omega arith) (omega arith) (omega arith) (omega arith))
    (not 0x2F (omega arith) (omega arith) (omega arith) (omega arith) (omega arith) (omega arith) (omega arith))
    (not 0x0F (omega arith) (omega arith) (omega arith) (omega arith) (omega arith) (omega arith) (omega arith))
    (not 0x73 (omega arith) (omega arith) (omega arith) (omega arith) (omega arith) (omega arith) (omega arith))

-- a halfword at one of the four places
at_00_001 : (h : ℕ) → field h 1 0 ≡ 0 → field h 15 13 ≡ 1 → expansion h ≡ None
unfolding expansion forms quadrant_0 quadrant_1 quadrant_2
at_00_001 h q f = rw (q, f) refl

at_00_101 : (h : ℕ) → field h 1 0 ≡ 0 → field h 15 13 ≡ 5 → expansion h ≡ None
unfolding expansion forms quadrant_0 quadrant_1 quadrant_2
at_00_101 h q f = rw (q, f) refl

at_10_001 : (h : ℕ) → field h 1 0 ≡ 2 → field h 15 13 ≡ 1 → expansion h ≡ None
unfolding expansion forms quadrant_0 quadrant_1 quadrant_2
at_10_001 h q f = rw (q, f) refl

at_10_101 : (h : ℕ) → field h 1 0 ≡ 2 → field h 15 13 ≡ 5 → expansion h ≡ None
unfolding expansion forms quadrant_0 quadrant_1 quadrant_2
at_10_101 h q f = rw (q, f) refl

pub forms_are_apart : FormsAreApart
unfolding float_expansion float_forms
forms_are_apart h word is = grind (arith, nat_tests, at_00_001, at_00_101, at_10_001, at_10_101)
