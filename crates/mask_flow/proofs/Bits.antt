-- Bits of masks.
use Rattle.std.proofs.Common.{◌≡◌, ℕ, ◌-◌, ◌^◌, ◌<◌, ◌==◌, ◌&&◌, ◌||◌, min, max, not, bit_and, bit_or, ap, ◌∙◌, arith}
use Rattle.std.specs.Int.{w32, bit_at, bit_not}
use Rattle.std.proofs.lemmas.Bool.Decides.{nat_tests}
use Rattle.std.proofs.lemmas.Nat.Bits.{bit_at_and, bit_at_or, bit_at_not}
use Rattle.mask_flow.specs.Reaches.{has_bit}

or_by_test : (x y z : ℕ) → x < 2 → y < 2 → z ≡ max x y → (z == 1) ≡ ((x == 1) || (y == 1))
or_by_test x y z p q e = grind (arith, nat_tests)

and_not_by_test : (x y z : ℕ) → x < 2 → y < 2 → z ≡ min x (1 - y) → (z == 1) ≡ ((x == 1) && not (y == 1))
and_not_by_test x y z p q e = grind (arith, nat_tests)

pub or_bit : (a b r : ℕ) → has_bit (bit_or a b) r ≡ (has_bit a r || has_bit b r)
or_bit a b r = or_by_test (bit_at a r) (bit_at b r) (bit_at (bit_or a b) r) (omega arith) (omega arith) (bit_at_or a b r)

pub and_not_bit : (a b r : ℕ) → b < 2 ^ 32 → r < 32 → has_bit (bit_and a (bit_not w32 b)) r ≡ (has_bit a r && not (has_bit b r))
and_not_bit a b r fits low =
    and_not_by_test (bit_at a r) (bit_at b r) (bit_at (bit_and a (bit_not w32 b)) r) (omega arith) (omega arith)
    (bit_at_and a (bit_not w32 b) r ∙ ap (min (bit_at a r)) (bit_at_not w32 b r fits low))
