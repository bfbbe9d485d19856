-- Registers in a list, and what a write of one changes.
use Rattle.std.proofs.Common.{◌≡◌, ◌≢◌, ℕ, zero, suc, ◌<◌, ◌==◌, Bool, true, false, cond, List, [], ◌∷◌, length, replicate, slice_set, get_or, get_or-set_same, get_or-set_other, refl, sym, ap, ◌∙◌, arith, lit<}
use mathlib.Core.Path.{fun_ext}
use Rattle.std.specs.Prelude.{slice_index}
use Rattle.std.proofs.lemmas.Bool.Decides.{nat_tests}
use Rattle.rv_machine.specs.Registers.{RegisterFile, written, at_start}

-- what the registers of a list hold
abbrev pub held_by : List ℕ → RegisterFile
held_by values r = cond (r == 0) 0 (slice_index values r)

-- a choice by one test, where only the second value differs
else_same : {A : Type 0} (b : Bool) (x y z : A) → (b ≡ false → y ≡ z) → cond b x y ≡ cond b x z
else_same true x y z h = refl
else_same false x y z h = h refl

module _ (values : List ℕ) (rd value : ℕ) (within : rd < length values) where
  by-register : (r : ℕ) (b : Bool) → (r == rd) ≡ b → (r == 0) ≡ false → slice_index (slice_set values rd value) r ≡ cond b value (held_by values r)
  by-register r true same some =
      let e : r ≡ rd = grind (arith, nat_tests) in
      ap (λ k. get_or (slice_set values rd value) k 0) e ∙ get_or-set_same values rd value 0 within
  by-register r false other some =
      let ne : r ≢ rd = grind (arith, nat_tests) in
      get_or-set_other values rd r value 0 ne ∙ ap (λ b. cond b 0 (get_or values r 0)) (sym some)

  pub held-set : held_by (slice_set values rd value) ≡ written (held_by values) rd value
  held-set = fun_ext (λ r. else_same (r == 0) 0 (slice_index (slice_set values rd value) r) (cond (r == rd) value (held_by values r)) (λ some. by-register r (r == rd) refl some))

-- zeros but for x2
get_or-zeros : (n r : ℕ) → slice_index (replicate n 0) r ≡ 0
get_or-zeros zero r = refl
get_or-zeros (suc n) zero = refl
get_or-zeros (suc n) (suc r) = get_or-zeros n r

at-two : (stack r : ℕ) (b : Bool) → (r == 2) ≡ b → slice_index (slice_set (replicate 32 0) 2 stack) r ≡ cond b stack 0
at-two stack r true same =
    let e : r ≡ 2 = grind (arith, nat_tests) in
    ap (λ k. get_or (slice_set (replicate 32 0) 2 stack) k 0) e ∙ get_or-set_same (replicate 32 0) 2 stack 0 (lit< tt)
at-two stack r false other =
    let ne : r ≢ 2 = grind (arith, nat_tests) in
    get_or-set_other (replicate 32 0) 2 r stack 0 ne ∙ get_or-zeros 32 r

zero-first : (r : ℕ) (b : Bool) (x y : ℕ) → (r == 0) ≡ b → (b ≡ true → 0 ≡ y) → x ≡ y → cond b 0 x ≡ y
zero-first r true x y is at_zero h = at_zero refl
zero-first r false x y is at_zero h = h

pub held-at_start : (stack : ℕ) → held_by (slice_set (replicate 32 0) 2 stack) ≡ at_start stack
held-at_start stack = fun_ext (λ r. zero-first r (r == 0) (slice_index (slice_set (replicate 32 0) 2 stack) r) (at_start stack r) refl (λ zero. let e : r ≡ 0 = grind (arith, nat_tests) in ap (λ k. cond (k == 2) stack 0) (sym e)) (at-two stack r (r == 2) refl))
