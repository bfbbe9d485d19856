-- What a halfword in the place of C.FSDSP stands for, by its fields.
use Rattle.std.proofs.Common.{◌≡◌, ◌≢◌, ℕ, zero, suc, ◌<◌, ◌≤◌, ◌-◌, nat_lt, nat_le, arith, Bool, true, false, ◌&&◌, ◌==◌, [], ◌∷◌, Some, None, refl, sym, ap, ◌∙◌, ne_eqb, bit_or}
use Rattle.std.proofs.lemmas.Bool.Decides.{nat_tests}
use Rattle.elf_image.specs.declared.extensions.Extensions.{Extensions}
use Rattle.rv_decode.specs.Fields.{field}
use Rattle.rv_decode.specs.declared.instructions.Insn.TheVariants.{Extension, Away}
use Rattle.rv_decode.specs.declared.instructions.AwayKind.TheVariants as away
use Rattle.rv_float.specs.Table.{is_among}
use Rattle.rv_extensions.specs.Table.{counted}
use Rattle.rv_extensions.specs.Registers.{only, both}
use Rattle.rv_extensions.specs.Forms.{extension_form, extension_forms, memory_forms, arithmetic_forms, may_be_forms, stack_forms, listed, register_list, moved}
use Rattle.rv_extensions.proofs.ByOpcode.{counted_is}

and_false : (b : Bool) → (b && false) ≡ false
and_false true = refl
and_false false = refl

-- whether a list of registers is one
in_list : (h : ℕ) → 4 ≤ field h 7 4 → is_among (counted 4 12) (field h 7 4) ≡ true
in_list h low = counted_is 4 12 (field h 7 4) ∙ grind (arith, nat_tests)

no_list : (h : ℕ) → field h 7 4 < 4 → is_among (counted 4 12) (field h 7 4) ≡ false
no_list h low = counted_is 4 12 (field h 7 4) ∙ grind (arith, nat_tests)

pub list_below : (h : ℕ) → field h 7 4 < 16
list_below h = omega arith

-- ---- pushes and pops

pub push_off : (e : Extensions) (h : ℕ) → field h 1 0 ≡ 2 → field h 15 13 ≡ 5 → field h 12 10 ≡ 6 → e.zcmp ≡ false → extension_form e h ≡ None
unfolding extension_form extension_forms memory_forms arithmetic_forms may_be_forms stack_forms
push_off e h q f function off = rw (q, f, function, off) (simp and_false)

pub pop_off : (e : Extensions) (h : ℕ) → field h 1 0 ≡ 2 → field h 15 13 ≡ 5 → field h 12 10 ≡ 7 → e.zcmp ≡ false → extension_form e h ≡ None
unfolding extension_form extension_forms memory_forms arithmetic_forms may_be_forms stack_forms
pop_off e h q f function off = rw (q, f, function, off) (simp and_false)

pub push_no_list : (e : Extensions) (h : ℕ) → field h 1 0 ≡ 2 → field h 15 13 ≡ 5 → field h 12 10 ≡ 6 → field h 7 4 < 4 → extension_form e h ≡ None
unfolding extension_form extension_forms memory_forms arithmetic_forms may_be_forms stack_forms
push_no_list e h q f function low = rw (q, f, function, no_list h low) (simp and_false)

pub pop_no_list : (e : Extensions) (h : ℕ) → field h 1 0 ≡ 2 → field h 15 13 ≡ 5 → field h 12 10 ≡ 7 → field h 7 4 < 4 → extension_form e h ≡ None
unfolding extension_form extension_forms memory_forms arithmetic_forms may_be_forms stack_forms
pop_no_list e h q f function low = rw (q, f, function, no_list h low) (simp and_false)

pub push_is : (e : Extensions) (h : ℕ) → field h 1 0 ≡ 2 → field h 15 13 ≡ 5 → field h 12 10 ≡ 6 → field h 9 8 ≡ 0 → 4 ≤ field h 7 4 → e.zcmp ≡ true → extension_form e h ≡ Some (Extension (bit_or 4 (listed (field h 7 4))) 4)
unfolding extension_form extension_forms memory_forms arithmetic_forms may_be_forms stack_forms
push_is e h q f function low list on = rw (q, f, function, low, in_list h list, on) refl

pub pop_is : (e : Extensions) (h : ℕ) → field h 1 0 ≡ 2 → field h 15 13 ≡ 5 → field h 12 10 ≡ 6 → field h 9 8 ≡ 2 → 4 ≤ field h 7 4 → e.zcmp ≡ true → extension_form e h ≡ Some (Extension 4 (bit_or 4 (listed (field h 7 4))))
unfolding extension_form extension_forms memory_forms arithmetic_forms may_be_forms stack_forms
pop_is e h q f function low list on = rw (q, f, function, low, in_list h list, on) refl

pub popretz_is : (e : Extensions) (h : ℕ) → field h 1 0 ≡ 2 → field h 15 13 ≡ 5 → field h 12 10 ≡ 7 → field h 9 8 ≡ 0 → 4 ≤ field h 7 4 → e.zcmp ≡ true → extension_form e h ≡ Some (Away away.Return 4 (bit_or 0x404 (listed (field h 7 4))))
unfolding extension_form extension_forms memory_forms arithmetic_forms may_be_forms stack_forms
popretz_is e h q f function low list on = rw (q, f, function, low, in_list h list, on) refl

pub popret_is : (e : Extensions) (h : ℕ) → field h 1 0 ≡ 2 → field h 15 13 ≡ 5 → field h 12 10 ≡ 7 → field h 9 8 ≡ 2 → 4 ≤ field h 7 4 → e.zcmp ≡ true → extension_form e h ≡ Some (Away away.Return 4 (bit_or 4 (listed (field h 7 4))))
unfolding extension_form extension_forms memory_forms arithmetic_forms may_be_forms stack_forms
popret_is e h q f function low list on = rw (q, f, function, low, in_list h list, on) refl

pub push_none : (e : Extensions) (h : ℕ) → field h 1 0 ≡ 2 → field h 15 13 ≡ 5 → field h 12 10 ≡ 6 → field h 9 8 ≢ 0 → field h 9 8 ≢ 2 → extension_form e h ≡ None
unfolding extension_form extension_forms memory_forms arithmetic_forms may_be_forms stack_forms
push_none e h q f function a b = rw (q, f, function, ne_eqb _ _ a, ne_eqb _ _ b) refl

pub pop_none : (e : Extensions) (h : ℕ) → field h 1 0 ≡ 2 → field h 15 13 ≡ 5 → field h 12 10 ≡ 7 → field h 9 8 ≢ 0 → field h 9 8 ≢ 2 → extension_form e h ≡ None
unfolding extension_form extension_forms memory_forms arithmetic_forms may_be_forms stack_forms
pop_none e h q f function a b = rw (q, f, function, ne_eqb _ _ a, ne_eqb _ _ b) refl

-- ---- moves

pub move_off : (e : Extensions) (h : ℕ) → field h 1 0 ≡ 2 → field h 15 13 ≡ 5 → field h 12 10 ≡ 3 → e.zcmp ≡ false → extension_form e h ≡ None
unfolding extension_form extension_forms memory_forms arithmetic_forms may_be_forms stack_forms
move_off e h q f function off = rw (q, f, function, off) (simp and_false)

pub to_saved : (e : Extensions) (h : ℕ) → field h 1 0 ≡ 2 → field h 15 13 ≡ 5 → field h 12 10 ≡ 3 → field h 6 5 ≡ 1 → field h 9 7 ≢ field h 4 2 → e.zcmp ≡ true → extension_form e h ≡ Some (Extension 0xC00 (moved h))
unfolding extension_form extension_forms memory_forms arithmetic_forms may_be_forms stack_forms
to_saved e h q f function way other on = rw (q, f, function, way, ne_eqb _ _ other, on) refl

same_test : (a b : ℕ) → a ≡ b → (a == b) ≡ true
same_test a b is = grind (arith, nat_tests)

pub to_same : (e : Extensions) (h : ℕ) → field h 1 0 ≡ 2 → field h 15 13 ≡ 5 → field h 12 10 ≡ 3 → field h 6 5 ≡ 1 → field h 9 7 ≡ field h 4 2 → extension_form e h ≡ None
unfolding extension_form extension_forms memory_forms arithmetic_forms may_be_forms stack_forms
to_same e h q f function way same = rw (q, f, function, way, same_test _ _ same) refl

pub from_saved : (e : Extensions) (h : ℕ) → field h 1 0 ≡ 2 → field h 15 13 ≡ 5 → field h 12 10 ≡ 3 → field h 6 5 ≡ 3 → e.zcmp ≡ true → extension_form e h ≡ Some (Extension (moved h) 0xC00)
unfolding extension_form extension_forms memory_forms arithmetic_forms may_be_forms stack_forms
from_saved e h q f function way on = rw (q, f, function, way, on) refl

pub move_none : (e : Extensions) (h : ℕ) → field h 1 0 ≡ 2 → field h 15 13 ≡ 5 → field h 12 10 ≡ 3 → field h 6 5 ≢ 1 → field h 6 5 ≢ 3 → extension_form e h ≡ None
unfolding extension_form extension_forms memory_forms arithmetic_forms may_be_forms stack_forms
move_none e h q f function a b = rw (q, f, function, ne_eqb _ _ a, ne_eqb _ _ b) refl

-- ---- jumps

pub jump_off : (e : Extensions) (h : ℕ) → field h 1 0 ≡ 2 → field h 15 13 ≡ 5 → field h 12 10 ≡ 0 → e.zcmt ≡ false → extension_form e h ≡ None
unfolding extension_form extension_forms memory_forms arithmetic_forms may_be_forms stack_forms
jump_off e h q f function off = rw (q, f, function, off) (simp and_false)

pub jump_is : (e : Extensions) (h : ℕ) → field h 1 0 ≡ 2 → field h 15 13 ≡ 5 → field h 12 10 ≡ 0 → field h 9 7 ≡ 0 → e.zcmt ≡ true → extension_form e h ≡ Some (Away away.Unknown 0 0)
unfolding extension_form extension_forms memory_forms arithmetic_forms may_be_forms stack_forms
jump_is e h q f function low on = rw (q, f, function, low, on) refl

pub is_high : (h : ℕ) → field h 9 7 ≢ 0 → is_among (counted 1 7) (field h 9 7) ≡ true
is_high h other = counted_is 1 7 (field h 9 7) ∙ high (field h 9 7) other (omega arith)
  where
    high : (n : ℕ) → n ≢ 0 → n < 8 → (nat_le 1 n && nat_lt n 8) ≡ true
    high n other below = grind (arith, nat_tests)

pub call_is : (e : Extensions) (h : ℕ) → field h 1 0 ≡ 2 → field h 15 13 ≡ 5 → field h 12 10 ≡ 0 → field h 9 7 ≢ 0 → e.zcmt ≡ true → extension_form e h ≡ Some (Away away.Call 0 2)
unfolding extension_form extension_forms memory_forms arithmetic_forms may_be_forms stack_forms
call_is e h q f function high on = rw (q, f, function, ne_eqb _ _ high, is_high h high, on) refl

pub other_is : (e : Extensions) (h : ℕ) → field h 1 0 ≡ 2 → field h 15 13 ≡ 5 → field h 12 10 ≢ 6 → field h 12 10 ≢ 7 → field h 12 10 ≢ 3 → field h 12 10 ≢ 0 → extension_form e h ≡ None
unfolding extension_form extension_forms memory_forms arithmetic_forms may_be_forms stack_forms
other_is e h q f a b c d = rw (q, f, ne_eqb _ _ a, ne_eqb _ _ b, ne_eqb _ _ c, ne_eqb _ _ d) refl

-- the last list
pub list_cases : (list : ℕ) → list ≢ 4 → list ≢ 5 → list ≢ 6 → list ≢ 7 → list ≢ 8 → list ≢ 9 → list ≢ 10 → list ≢ 11 → list ≢ 12 → list ≢ 13 → list ≢ 14 → 4 ≤ list → list < 16 → list ≡ 15
list_cases list a b c d f g h i j k l low high = omega arith
