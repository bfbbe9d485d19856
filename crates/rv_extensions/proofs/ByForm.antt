-- What a halfword stands for, by its fields.
use Rattle.std.proofs.Common.{◌≡◌, ◌≢◌, ℕ, arith, Bool, true, false, ◌&&◌, ◌||◌, ◌==◌, if◌then◌else◌, Some, None, pos, negsuc, refl, ne_eqb}
use Rattle.elf_image.specs.declared.extensions.Extensions.{Extensions}
use Rattle.rv_decode.specs.Fields.{field}
use Rattle.rv_decode.specs.declared.instructions.Insn.TheVariants.{Load, Store, Imm, Reg, ShiftAdd, Extend, Extension}
use Rattle.rv_decode.specs.declared.instructions.LoadKind.TheVariants.{Lbu, Lhu, Lh}
use Rattle.rv_decode.specs.declared.instructions.StoreKind.TheVariants.{Sb, Sh}
use Rattle.rv_decode.specs.declared.instructions.ImmKind.TheVariants.{Andi, Xori}
use Rattle.rv_decode.specs.declared.instructions.RegKind.TheVariants.{Mul}
use Rattle.rv_decode.specs.declared.instructions.ExtendKind.TheVariants.{SextB, SextH, ZextH}
use Rattle.rvc_expand.specs.Halfword.{first_popular, second_popular, first_register}
use Rattle.rv_extensions.specs.Registers.{only}
use Rattle.rv_extensions.specs.Forms.{extension_form, extension_forms, memory_forms, arithmetic_forms, may_be_forms, stack_forms, byte_offset, half_offset}

and_true : (b : Bool) → (b && true) ≡ b
and_true true = refl
and_true false = refl

and_false : (b : Bool) → (b && false) ≡ false
and_false true = refl
and_false false = refl

or_false : (b : Bool) → (b || false) ≡ b
or_false true = refl
or_false false = refl

-- ---- loads and stores

pub memory_off : (e : Extensions) (h : ℕ) → field h 1 0 ≡ 0 → field h 15 13 ≡ 4 → e.zcb ≡ false → extension_form e h ≡ None
unfolding extension_form extension_forms memory_forms arithmetic_forms may_be_forms stack_forms
memory_off e h a0 a1 a2 = rw (a0, a1, a2) (simp and_false)

pub load_byte : (e : Extensions) (h : ℕ) → field h 1 0 ≡ 0 → field h 15 13 ≡ 4 → e.zcb ≡ true → field h 12 10 ≡ 0 → extension_form e h ≡ Some (Load Lbu (second_popular h) (first_popular h) (pos (byte_offset h)))
unfolding extension_form extension_forms memory_forms arithmetic_forms may_be_forms stack_forms
load_byte e h a0 a1 a2 a3 = rw (a0, a1, a2, a3) refl

pub load_half : (e : Extensions) (h : ℕ) → field h 1 0 ≡ 0 → field h 15 13 ≡ 4 → e.zcb ≡ true → field h 12 10 ≡ 1 → field h 6 6 ≡ 0 → extension_form e h ≡ Some (Load Lhu (second_popular h) (first_popular h) (pos (half_offset h)))
unfolding extension_form extension_forms memory_forms arithmetic_forms may_be_forms stack_forms
load_half e h a0 a1 a2 a3 a4 = rw (a0, a1, a2, a3, a4) refl

pub load_signed : (e : Extensions) (h : ℕ) → field h 1 0 ≡ 0 → field h 15 13 ≡ 4 → e.zcb ≡ true → field h 12 10 ≡ 1 → field h 6 6 ≡ 1 → extension_form e h ≡ Some (Load Lh (second_popular h) (first_popular h) (pos (half_offset h)))
unfolding extension_form extension_forms memory_forms arithmetic_forms may_be_forms stack_forms
load_signed e h a0 a1 a2 a3 a4 = rw (a0, a1, a2, a3, a4) refl

pub store_byte : (e : Extensions) (h : ℕ) → field h 1 0 ≡ 0 → field h 15 13 ≡ 4 → e.zcb ≡ true → field h 12 10 ≡ 2 → extension_form e h ≡ Some (Store Sb (first_popular h) (second_popular h) (pos (byte_offset h)))
unfolding extension_form extension_forms memory_forms arithmetic_forms may_be_forms stack_forms
store_byte e h a0 a1 a2 a3 = rw (a0, a1, a2, a3) refl

pub store_half : (e : Extensions) (h : ℕ) → field h 1 0 ≡ 0 → field h 15 13 ≡ 4 → e.zcb ≡ true → field h 12 10 ≡ 3 → field h 6 6 ≡ 0 → extension_form e h ≡ Some (Store Sh (first_popular h) (second_popular h) (pos (half_offset h)))
unfolding extension_form extension_forms memory_forms arithmetic_forms may_be_forms stack_forms
store_half e h a0 a1 a2 a3 a4 = rw (a0, a1, a2, a3, a4) refl

pub store_none : (e : Extensions) (h : ℕ) → field h 1 0 ≡ 0 → field h 15 13 ≡ 4 → e.zcb ≡ true → field h 12 10 ≡ 3 → field h 6 6 ≢ 0 → extension_form e h ≡ None
unfolding extension_form extension_forms memory_forms arithmetic_forms may_be_forms stack_forms
store_none e h a0 a1 a2 a3 a4 = rw (a0, a1, a2, a3, ne_eqb _ _ a4) refl

pub memory_none : (e : Extensions) (h : ℕ) → field h 1 0 ≡ 0 → field h 15 13 ≡ 4 → field h 12 10 ≢ 0 → field h 12 10 ≢ 1 → field h 12 10 ≢ 2 → field h 12 10 ≢ 3 → extension_form e h ≡ None
unfolding extension_form extension_forms memory_forms arithmetic_forms may_be_forms stack_forms
memory_none e h a0 a1 a2 a3 a4 a5 = rw (a0, a1, ne_eqb _ _ a2, ne_eqb _ _ a3, ne_eqb _ _ a4, ne_eqb _ _ a5) refl

pub bit_6 : (h : ℕ) → field h 6 6 ≢ 0 → field h 6 6 ≡ 1
bit_6 h other = omega arith

-- ---- arithmetic

pub no_bit_12 : (e : Extensions) (h : ℕ) → field h 1 0 ≡ 1 → field h 15 13 ≡ 4 → field h 12 12 ≢ 1 → extension_form e h ≡ None
unfolding extension_form extension_forms memory_forms arithmetic_forms may_be_forms stack_forms
no_bit_12 e h a0 a1 a2 = rw (a0, a1, ne_eqb _ _ a2) refl

pub no_arithmetic : (e : Extensions) (h : ℕ) → field h 1 0 ≡ 1 → field h 15 13 ≡ 4 → field h 11 10 ≢ 3 → extension_form e h ≡ None
unfolding extension_form extension_forms memory_forms arithmetic_forms may_be_forms stack_forms
no_arithmetic e h a0 a1 a2 = rw (a0, a1, ne_eqb _ _ a2) (simp and_false)

pub arithmetic_off : (e : Extensions) (h : ℕ) → field h 1 0 ≡ 1 → field h 15 13 ≡ 4 → e.zcb ≡ false → extension_form e h ≡ None
unfolding extension_form extension_forms memory_forms arithmetic_forms may_be_forms stack_forms
arithmetic_off e h a0 a1 a2 = rw (a0, a1, a2) (simp and_false)

pub multiply : (e : Extensions) (h : ℕ) → field h 1 0 ≡ 1 → field h 15 13 ≡ 4 → field h 12 12 ≡ 1 → field h 11 10 ≡ 3 → e.zcb ≡ true → field h 6 5 ≡ 2 → extension_form e h ≡ Some (Reg Mul (first_popular h) (first_popular h) (second_popular h))
unfolding extension_form extension_forms memory_forms arithmetic_forms may_be_forms stack_forms
multiply e h a0 a1 a2 a3 a4 a5 = rw (a0, a1, a2, a3, a4, a5) refl

pub zext_b : (e : Extensions) (h : ℕ) → field h 1 0 ≡ 1 → field h 15 13 ≡ 4 → field h 12 12 ≡ 1 → field h 11 10 ≡ 3 → e.zcb ≡ true → field h 6 5 ≡ 3 → field h 4 2 ≡ 0 → extension_form e h ≡ Some (Imm Andi (first_popular h) (first_popular h) (pos 255))
unfolding extension_form extension_forms memory_forms arithmetic_forms may_be_forms stack_forms
zext_b e h a0 a1 a2 a3 a4 a5 a6 = rw (a0, a1, a2, a3, a4, a5, a6) refl

pub sext_b : (e : Extensions) (h : ℕ) → field h 1 0 ≡ 1 → field h 15 13 ≡ 4 → field h 12 12 ≡ 1 → field h 11 10 ≡ 3 → e.zcb ≡ true → field h 6 5 ≡ 3 → field h 4 2 ≡ 1 → extension_form e h ≡ (if e.zbb then Some (Extend SextB (first_popular h) (first_popular h)) else None)
unfolding extension_form extension_forms memory_forms arithmetic_forms may_be_forms stack_forms
sext_b e h a0 a1 a2 a3 a4 a5 a6 = rw (a0, a1, a2, a3, a4, a5, a6) refl

pub zext_h : (e : Extensions) (h : ℕ) → field h 1 0 ≡ 1 → field h 15 13 ≡ 4 → field h 12 12 ≡ 1 → field h 11 10 ≡ 3 → e.zcb ≡ true → field h 6 5 ≡ 3 → field h 4 2 ≡ 2 → extension_form e h ≡ (if e.zbb then Some (Extend ZextH (first_popular h) (first_popular h)) else None)
unfolding extension_form extension_forms memory_forms arithmetic_forms may_be_forms stack_forms
zext_h e h a0 a1 a2 a3 a4 a5 a6 = rw (a0, a1, a2, a3, a4, a5, a6) refl

pub sext_h : (e : Extensions) (h : ℕ) → field h 1 0 ≡ 1 → field h 15 13 ≡ 4 → field h 12 12 ≡ 1 → field h 11 10 ≡ 3 → e.zcb ≡ true → field h 6 5 ≡ 3 → field h 4 2 ≡ 3 → extension_form e h ≡ (if e.zbb then Some (Extend SextH (first_popular h) (first_popular h)) else None)
unfolding extension_form extension_forms memory_forms arithmetic_forms may_be_forms stack_forms
sext_h e h a0 a1 a2 a3 a4 a5 a6 = rw (a0, a1, a2, a3, a4, a5, a6) refl

pub zext_w : (e : Extensions) (h : ℕ) → field h 1 0 ≡ 1 → field h 15 13 ≡ 4 → field h 12 12 ≡ 1 → field h 11 10 ≡ 3 → e.zcb ≡ true → field h 6 5 ≡ 3 → field h 4 2 ≡ 4 → extension_form e h ≡ (if e.zba then Some (ShiftAdd 0 true (first_popular h) (first_popular h) 0) else None)
unfolding extension_form extension_forms memory_forms arithmetic_forms may_be_forms stack_forms
zext_w e h a0 a1 a2 a3 a4 a5 a6 = rw (a0, a1, a2, a3, a4, a5, a6) refl

pub not_is : (e : Extensions) (h : ℕ) → field h 1 0 ≡ 1 → field h 15 13 ≡ 4 → field h 12 12 ≡ 1 → field h 11 10 ≡ 3 → e.zcb ≡ true → field h 6 5 ≡ 3 → field h 4 2 ≡ 5 → extension_form e h ≡ Some (Imm Xori (first_popular h) (first_popular h) (negsuc 0))
unfolding extension_form extension_forms memory_forms arithmetic_forms may_be_forms stack_forms
not_is e h a0 a1 a2 a3 a4 a5 a6 = rw (a0, a1, a2, a3, a4, a5, a6) refl

pub unary_none : (e : Extensions) (h : ℕ) → field h 1 0 ≡ 1 → field h 15 13 ≡ 4 → field h 12 12 ≡ 1 → field h 11 10 ≡ 3 → e.zcb ≡ true → field h 6 5 ≡ 3 → field h 4 2 ≢ 0 → field h 4 2 ≢ 1 → field h 4 2 ≢ 2 → field h 4 2 ≢ 3 → field h 4 2 ≢ 4 → field h 4 2 ≢ 5 → extension_form e h ≡ None
unfolding extension_form extension_forms memory_forms arithmetic_forms may_be_forms stack_forms
unary_none e h a0 a1 a2 a3 a4 a5 a6 a7 a8 a9 a10 a11 = rw (a0, a1, a2, a3, a4, a5, ne_eqb _ _ a6, ne_eqb _ _ a7, ne_eqb _ _ a8, ne_eqb _ _ a9, ne_eqb _ _ a10, ne_eqb _ _ a11) refl

pub arithmetic_none : (e : Extensions) (h : ℕ) → field h 1 0 ≡ 1 → field h 15 13 ≡ 4 → field h 12 12 ≡ 1 → field h 11 10 ≡ 3 → field h 6 5 ≢ 2 → field h 6 5 ≢ 3 → extension_form e h ≡ None
unfolding extension_form extension_forms memory_forms arithmetic_forms may_be_forms stack_forms
arithmetic_none e h a0 a1 a2 a3 a4 a5 = rw (a0, a1, a2, a3, ne_eqb _ _ a4, ne_eqb _ _ a5) refl

-- ---- the rest

pub may_be_is : (e : Extensions) (h : ℕ) → field h 1 0 ≡ 1 → field h 15 13 ≡ 3 → extension_form e h ≡ (if ((field h 12 12 == 0) && ((field h 11 11 == 0) && ((field h 7 7 == 1) && (field h 6 2 == 0)))) && e.zcmop then Some (Extension (only (first_register h)) 0) else None)
unfolding extension_form extension_forms memory_forms arithmetic_forms may_be_forms stack_forms
may_be_is e h a0 a1 = rw (a0, a1) (simp (and_true, or_false))

pub quadrant_0_none : (e : Extensions) (h : ℕ) → field h 1 0 ≡ 0 → field h 15 13 ≢ 4 → extension_form e h ≡ None
unfolding extension_form extension_forms memory_forms arithmetic_forms may_be_forms stack_forms
quadrant_0_none e h a0 a1 = rw (a0, ne_eqb _ _ a1) refl

pub quadrant_1_none : (e : Extensions) (h : ℕ) → field h 1 0 ≡ 1 → field h 15 13 ≢ 4 → field h 15 13 ≢ 3 → extension_form e h ≡ None
unfolding extension_form extension_forms memory_forms arithmetic_forms may_be_forms stack_forms
quadrant_1_none e h a0 a1 a2 = rw (a0, ne_eqb _ _ a1, ne_eqb _ _ a2) refl

pub quadrant_2_none : (e : Extensions) (h : ℕ) → field h 1 0 ≡ 2 → field h 15 13 ≢ 5 → extension_form e h ≡ None
unfolding extension_form extension_forms memory_forms arithmetic_forms may_be_forms stack_forms
quadrant_2_none e h a0 a1 = rw (a0, ne_eqb _ _ a1) refl

pub quadrant_none : (e : Extensions) (h : ℕ) → field h 1 0 ≢ 0 → field h 1 0 ≢ 1 → field h 1 0 ≢ 2 → extension_form e h ≡ None
unfolding extension_form extension_forms memory_forms arithmetic_forms may_be_forms stack_forms
quadrant_none e h a0 a1 a2 = rw (ne_eqb _ _ a0, ne_eqb _ _ a1, ne_eqb _ _ a2) refl
