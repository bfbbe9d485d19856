-- Bits of the masks of registers.
use Rattle.std.proofs.Common.{◌≡◌, ◌≢◌, ℕ, zero, suc, ◌-◌, ◌*◌, ◌%◌, ◌^◌, ◌<◌, ◌==◌, ◌&&◌, ◌||◌, not, Bool, true, false, bit_and, bit_or, refl, sym, ap, ◌∙◌, inl, inr, arith}
use Rattle.std.specs.Int.{w32, bit_at, bit_not}
use Rattle.std.proofs.lemmas.Bool.{cases_eq}
use Rattle.std.proofs.lemmas.Bool.Decides.{nat_tests}
use Rattle.std.proofs.lemmas.Nat.{one_shl}
use Rattle.std.proofs.lemmas.Nat.Bits.{bit_at-pow_same, bit_at-pow_other, bit_at-zero, bit_at-suc, bit_at_not}
use Rattle.mask_flow.specs.Reaches.{has_bit}
use Rattle.mask_flow.proofs.Bits.{or_bit, and_not_bit}

swapped : (a b : Bool) → (a && not b) ≡ (not b && a)
swapped true true = refl
swapped true false = refl
swapped false true = refl
swapped false false = refl

pub without_bit : (mask other r : ℕ) → other < 2 ^ 32 → r < 32 → has_bit (bit_and mask (bit_not w32 other)) r ≡ (not (has_bit other r) && has_bit mask r)
without_bit mask other r fits low = and_not_bit mask other r fits low ∙ swapped (has_bit mask r) (has_bit other r)

one_register : (r number bit : ℕ) → 0 < number → r ≡ number → bit ≡ 1 → (bit == 1) ≡ (not (r == 0) && r == number)
one_register r number bit some e is = grind (arith, nat_tests)

no_register : (r number bit : ℕ) → r ≢ number → bit ≡ 0 → (bit == 1) ≡ (not (r == 0) && r == number)
no_register r number bit apart is = grind (arith, nat_tests)

-- `1 << number`
pub register_bit : (number r : ℕ) → 0 < number → number < 32 → has_bit (1 * 2 ^ number % 2 ^ 32) r ≡ (not (r == 0) && r == number)
register_bit number r some low =
    let shifted : 1 * 2 ^ number % 2 ^ 32 ≡ 2 ^ number = one_shl number 32 low in
    ap (λ m. has_bit m r) shifted ∙ (elim (cases_eq r number) [
      | inl e ↦ one_register r number (bit_at (2 ^ number) r) some e (ap (bit_at (2 ^ number)) e ∙ bit_at-pow_same number)
      | inr apart ↦ no_register r number (bit_at (2 ^ number) r) apart (bit_at-pow_other number r apart)
    ])

-- the mask of x1 to x31
all_bit_at : (r : ℕ) → r < 32 → bit_at 4294967294 r ≡ 1 - bit_at 1 r
all_bit_at r low = bit_at_not w32 1 r (omega arith) low

all_higher : (x r : ℕ) → x ≡ 1 → (x == 1) ≡ not (suc r == 0)
all_higher x r e = grind (arith, nat_tests)

pub all_bit : (r : ℕ) → r < 32 → has_bit 4294967294 r ≡ not (r == 0)
all_bit zero low = refl
all_bit (suc r) low = all_higher (bit_at 4294967294 (suc r)) r (all_bit_at (suc r) low ∙ ap (λ d. 1 - d) (bit_at-suc 1 r ∙ bit_at-zero r))

pub ecall_bit : (r : ℕ) → r < 32 → has_bit 4294967294 r ≡ (not (r == 0) && true)
ecall_bit r low = all_bit r low ∙ with_true (not (r == 0))
  where
    with_true : (b : Bool) → b ≡ (b && true)
    with_true true = refl
    with_true false = refl

both : (a b c : Bool) → ((a && b) || (a && c)) ≡ (a && (b || c))
both true b c = refl
both false b c = refl

-- two registers
pub two_bits : (x y r : ℕ) (a b c : Bool) → has_bit x r ≡ (a && b) → has_bit y r ≡ (a && c) → has_bit (bit_or x y) r ≡ (a && (b || c))
two_bits x y r a b c p q = or_bit x y r ∙ (ap (λ h. h || has_bit y r) p ∙ (ap (λ h. (a && b) || h) q ∙ both a b c))

-- a block that leaves keeps what it does not write
pub leaving_bit : (r : ℕ) (a b c d : Bool) → a ≡ not (r == 0) → d ≡ (not b && a) → (c || d) ≡ (c || (true && not (r == 0) && not b))
leaving_bit r a b true d e h = refl
leaving_bit r a true false d e h = h ∙ sym (with_none (not (r == 0)))
  where
    with_none : (x : Bool) → (true && x && false) ≡ false
    with_none true = refl
    with_none false = refl
leaving_bit r a false false d e h = h ∙ (e ∙ with_all (not (r == 0)))
  where
    with_all : (x : Bool) → x ≡ (true && x && true)
    with_all true = refl
    with_all false = refl

pub zero_bit : (r : ℕ) → has_bit 0 r ≡ false
zero_bit r = ap (λ x. x == 1) (bit_at-zero r)

-- the bit of x0
pub lowest_bit : (r : ℕ) → has_bit 1 r ≡ (r == 0)
lowest_bit zero = refl
lowest_bit (suc r) = ap (λ x. x == 1) (bit_at-suc 1 r ∙ bit_at-zero r) ∙ higher r
  where
    higher : (r : ℕ) → (0 == 1) ≡ (suc r == 0)
    higher r = grind (arith, nat_tests)
