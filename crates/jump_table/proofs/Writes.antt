-- Registers in a list, and what a write of one changes.
use Rattle.std.proofs.Common.{◌≡◌, ◌≢◌, ℕ, zero, suc, ◌+◌, ◌*◌, ◌/◌, ◌%◌, ◌^◌, ◌<◌, ◌≤◌, ◌⊎◌, ◌==◌, Bool, true, false, cond, List, [], ◌∷◌, length, slice_set, get_or-set_same, get_or-set_other, refl, sym, ap, ◌∙◌, subst, inl, inr, arith}
use mathlib.Core.Path.{fun_ext}
use Rattle.std.specs.Prelude.{nat_lt, slice_get, unwrap_or}
use Rattle.std.proofs.lemmas.Option.{unwrap_or-slice_get}
use Rattle.std.proofs.Math.Pow.{pow_mono}
use Rattle.std.proofs.lemmas.Nat.{div-mul-add}
use Rattle.std.proofs.lemmas.Bool.{cond-false, cases_lt}
use Rattle.std.proofs.lemmas.Bool.Decides.{nat_tests}
use Rattle.jump_table.specs.declared.values.Value.{Value}
use Rattle.jump_table.specs.declared.values.Value.TheVariants.{Unknown, Const, Index, Far}
use Rattle.jump_table.specs.declared.pair.Origin.TheVariants.{Register}
use Rattle.jump_table.specs.Values.{Registers, at_test, written, forgotten, entered, overwritten}
use Rattle.jump_table.specs.Inner.Held.{held_by}

-- a choice by one test, where only the second value differs
else_same : {A : Type 0} (b : Bool) (x y z : A) → (b ≡ false → y ≡ z) → cond b x y ≡ cond b x z
else_same true x y z h = refl
else_same false x y z h = h refl

twice : {A : Type 0} (b d : Bool) (x y z : A) → cond b x (cond d y (cond b x z)) ≡ cond b x (cond d y z)
twice true d x y z = refl
twice false d x y z = refl

-- some registers of which nothing is known
unknowns : ℕ → List Value
unknowns zero = []
unknowns (suc n) = Unknown ∷ unknowns n

unknown-at : (n r : ℕ) → unwrap_or (slice_get (unknowns n) r) Unknown ≡ Unknown
unfolding unknowns
unknown-at zero r = refl
unknown-at (suc n) zero = refl
unknown-at (suc n) (suc r) = unknown-at n r

held-unknowns : (n : ℕ) → held_by (unknowns n) ≡ forgotten
held-unknowns n = fun_ext (λ r. else_same (r == 0) (Const 0) (unwrap_or (slice_get (unknowns n) r) Unknown) Unknown (λ _. unknown-at n r))

pub held-all_unknown : held_by (Unknown ∷ Unknown ∷ Unknown ∷ Unknown ∷ Unknown ∷ Unknown ∷ Unknown ∷ Unknown ∷ Unknown ∷ Unknown ∷ Unknown ∷ Unknown ∷ Unknown ∷ Unknown ∷ Unknown ∷ Unknown ∷ Unknown ∷ Unknown ∷ Unknown ∷ Unknown ∷ Unknown ∷ Unknown ∷ Unknown ∷ Unknown ∷ Unknown ∷ Unknown ∷ Unknown ∷ Unknown ∷ Unknown ∷ Unknown ∷ Unknown ∷ Unknown ∷ []) ≡ forgotten
unfolding unknowns
held-all_unknown = held-unknowns 32

pub written-forgotten : (index : ℕ) → written forgotten index Index ≡ at_test index
written-forgotten index = fun_ext (λ r. twice (r == 0) (r == index) (Const 0) Index Unknown)

module _ (values : List Value) (rd : ℕ) (value : Value) (within : rd < length values) where
  at-other : (r : ℕ) → r ≢ rd → unwrap_or (slice_get (slice_set values rd value) r) Unknown ≡ unwrap_or (slice_get values r) Unknown
  at-other r other =
      unwrap_or-slice_get (slice_set values rd value) r Unknown ∙ get_or-set_other values rd r value Unknown other ∙ sym (unwrap_or-slice_get values r Unknown)

  at-same : unwrap_or (slice_get (slice_set values rd value) rd) Unknown ≡ value
  at-same = unwrap_or-slice_get (slice_set values rd value) rd Unknown ∙ get_or-set_same values rd value Unknown within

  by-register : (r : ℕ) (b : Bool) → (r == rd) ≡ b → (r == 0) ≡ false
      → unwrap_or (slice_get (slice_set values rd value) r) Unknown ≡ cond b value (held_by values r)
  by-register r true same some = let e : r ≡ rd = grind (arith, nat_tests) in ap (λ k. unwrap_or (slice_get (slice_set values rd value) k) Unknown) e ∙ at-same
  by-register r false other some =
      let ne : r ≢ rd = grind (arith, nat_tests) in
      at-other r ne ∙ ap (λ b. cond b (Const 0) (unwrap_or (slice_get values r) Unknown)) (sym some)

  pub held-set : held_by (slice_set values rd value) ≡ written (held_by values) rd value
  held-set = fun_ext (λ r. else_same (r == 0) (Const 0) (unwrap_or (slice_get (slice_set values rd value) r) Unknown) (cond (r == rd) value (held_by values r)) (λ some. by-register r (r == rd) refl some))

-- ---- several registers are forgotten, one after the other

-- The registers below n whose bits are set in a mask are forgotten, and no others.
pub record AreOverwrittenBelow (before : Registers) (mask n : ℕ) (now : Registers) : Type 0 where
  pub below : (r : ℕ) → r < n → now r ≡ overwritten before mask r
  pub above : (r : ℕ) → n ≤ r → now r ≡ before r

module _ (before : Registers) (mask : ℕ) where
  abbrev Below : ℕ → Registers → Type 0
  Below n now = AreOverwrittenBelow before mask n now

  pub overwritten-none : Below 0 before
  overwritten-none = record { below = λ r h. absurd (omega arith); above = λ r h. refl }

  abbrev has_bit : ℕ → Bool
  has_bit r = mask / 2 ^ r % 2 == 1

  -- a register that the mask does not have stays
  stays : (r : ℕ) → before 0 ≡ Const 0 → has_bit r ≡ false → before r ≡ overwritten before mask r
  stays r none other = go (r == 0) refl
    where
      go : (b : Bool) → (r == 0) ≡ b → before r ≡ overwritten before mask r
      go true is = let e : r ≡ 0 = grind (arith, nat_tests) in ap before e ∙ none ∙ sym (ap (λ b. cond b (Const 0) (cond (has_bit r) Unknown (before r))) is)
      go false is = sym (ap (λ b. cond b (Const 0) (cond (has_bit r) Unknown (before r))) is ∙ cond-false (has_bit r) Unknown (before r) other)

  forgotten-there : (r : ℕ) (now : Registers) → has_bit r ≡ true → written now r Unknown r ≡ overwritten before mask r
  forgotten-there r now set = let e : (r == r) ≡ true = grind (arith, nat_tests) in
      ap (λ b. cond (r == 0) (Const 0) (cond b Unknown (now r))) e ∙ sym (ap (λ b. cond (r == 0) (Const 0) (cond b Unknown (before r))) set)

  other-there : (r n : ℕ) (now : Registers) → r ≢ n → now r ≡ overwritten before mask r → written now n Unknown r ≡ overwritten before mask r
  other-there r n now other is =
      let e : (r == n) ≡ false = grind (arith, nat_tests) in
      ap (λ b. cond (r == 0) (Const 0) (cond b Unknown (now r))) e ∙ ap (λ v. cond (r == 0) (Const 0) v) is
      ∙ twice_zero (r == 0)
    where
      twice_zero : (b : Bool) → cond b (Const 0) (cond b (Const 0) (cond (mask / 2 ^ r % 2 == 1) Unknown (before r))) ≡ cond b (Const 0) (cond (mask / 2 ^ r % 2 == 1) Unknown (before r))
      twice_zero true = refl
      twice_zero false = refl

  split : (r n : ℕ) → r < n + 1 → (r ≡ n) ⊎ (r < n)
  split r n h = grind arith

  pub overwritten-set : (n : ℕ) (now : Registers) → Below n now → has_bit n ≡ true → Below (n + 1) (written now n Unknown)
  overwritten-set n now is set = record {
    below = λ r h. go r (split r n h);
    above = λ r h. above r h;
  }
    where
      go : (r : ℕ) → (r ≡ n) ⊎ (r < n) → written now n Unknown r ≡ overwritten before mask r
      go r (inl same) = let P : ℕ → Type 0 = λ k. written now n Unknown k ≡ overwritten before mask k in subst P (sym same) (forgotten-there n now set)
      go r (inr less) = other-there r n now (λ same. omega arith) (is.below r less)

      above : (r : ℕ) → n + 1 ≤ r → written now n Unknown r ≡ before r
      above r h =
          let e : (r == n) ≡ false = grind (arith, nat_tests) in
          let f : (r == 0) ≡ false = grind (arith, nat_tests) in
          ap (λ b. cond b (Const 0) (cond (r == n) Unknown (now r))) f ∙ ap (λ b. cond b Unknown (now r)) e ∙ is.above r (omega arith)

  pub overwritten-kept : (n : ℕ) (now : Registers) → before 0 ≡ Const 0 → Below n now → has_bit n ≡ false → Below (n + 1) now
  overwritten-kept n now none is other = record {
    below = λ r h. go r (split r n h);
    above = λ r h. is.above r (omega arith);
  }
    where
      go : (r : ℕ) → (r ≡ n) ⊎ (r < n) → now r ≡ overwritten before mask r
      go r (inl same) = let P : ℕ → Type 0 = λ k. now k ≡ overwritten before mask k in subst P (sym same) (is.above n (omega arith) ∙ stays n none other)
      go r (inr less) = is.below r less

  -- A mask of 32 bits has none of the bits above.
  no_bit : (r : ℕ) → mask < 2 ^ 32 → 32 ≤ r → has_bit r ≡ false
  no_bit r small high =
      let more : 2 ^ 32 ≤ 2 ^ r = pow_mono high in
      let same : mask ≡ 0 * 2 ^ r + mask = omega arith in
      let none : mask / 2 ^ r ≡ 0 = ap (λ m. m / 2 ^ r) same ∙ div-mul-add 0 (2 ^ r) mask (omega arith) in
      ap (λ q. q % 2 == 1) none

  pub overwritten-all : (n : ℕ) (now : Registers) → n ≡ 32 → mask < 2 ^ 32 → before 0 ≡ Const 0 → Below n now → now ≡ overwritten before mask
  overwritten-all n now all small none is = fun_ext (λ r. go r (cases_lt r n))
    where
      go : (r : ℕ) → (r < n) ⊎ (n ≤ r) → now r ≡ overwritten before mask r
      go r (inl less) = is.below r less
      go r (inr more) = is.above r more ∙ stays r none (no_bit r small (omega arith))

-- ---- what a run of the hoisted form is entered with, register by register

-- Each register below n holds what it was given far before.
abbrev pub entered_below : ℕ → Registers
entered_below n r = cond (r == 0) (Const 0) (cond (nat_lt r n) (Far (Register r)) Unknown)

pub entered-none : forgotten ≡ entered_below 0
entered-none = fun_ext (λ r. let e : nat_lt r 0 ≡ false = grind (arith, nat_tests) in
    ap (λ b. cond (r == 0) (Const 0) (cond b (Far (Register r)) Unknown)) (sym e))

pub entered-more : (n : ℕ) → written (entered_below n) n (Far (Register n)) ≡ entered_below (n + 1)
entered-more n = fun_ext (λ r. else_same (r == 0) (Const 0) (cond (r == n) (Far (Register n)) (entered_below n r)) (cond (nat_lt r (n + 1)) (Far (Register r)) Unknown) (λ some. go r some (r == n) refl))
  where
    go : (r : ℕ) → (r == 0) ≡ false → (b : Bool) → (r == n) ≡ b → cond b (Far (Register n)) (entered_below n r) ≡ cond (nat_lt r (n + 1)) (Far (Register r)) Unknown
    go r some true is =
        let same : n ≡ r = grind (arith, nat_tests) in
        let e : nat_lt r (n + 1) ≡ true = grind (arith, nat_tests) in
        ap (λ k. Far (Register k)) same ∙ sym (ap (λ b. cond b (Far (Register r)) Unknown) e)
    go r some false is =
        let e : nat_lt r n ≡ nat_lt r (n + 1) = grind (arith, nat_tests) in
        ap (λ b. cond b (Const 0) (cond (nat_lt r n) (Far (Register r)) Unknown)) some ∙ ap (λ b. cond b (Far (Register r)) Unknown) e

pub entered-all : (n : ℕ) → n ≡ 32 → entered_below n ≡ entered
entered-all n is = ap entered_below is
