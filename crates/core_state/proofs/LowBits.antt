-- The bits of a line: a lowest one, and those after one.
use Rattle.std.proofs.Common.{◌≡◌, ℕ, ◌+◌, ◌-◌, ◌*◌, ◌/◌, ◌%◌, ◌^◌, ◌<◌, ◌≤◌, min, bit_and, subst, sym, ap, ◌∙◌, arith}
use Rattle.std.specs.Prelude.{Some, None, ◌⊎◌}
use Rattle.std.specs.Int.{w64, bit_at, trailing_zeros}
use Rattle.std.proofs.lemmas.Nat.Bits.{bit_at-trailing_zeros, bit_at-zero, bit_at-lt, bit_at_and, bit_at_mask_inside, bit_at_mask_below, ones_shl}
use mathlib.Core.Logic.{inl, inr}
use Rattle.core_state.specs.Least.{IsLeast}
use Rattle.address_map.proofs.EntriesLinked.{less_or_not}

pub low : (a : ℕ) → a % 64 < 64
low a = omega arith

-- the place of the lowest bit in a line
module _ (bits a first z : ℕ) (at : first ≡ a / 64 * 64) (within : z < 64) (set : bit_at bits z ≡ 1) (none : (i : ℕ) → i < z → bit_at bits i ≡ 0) where
  place : (first + z) % 64 ≡ z
  place = omega arith

  line : (first + z) / 64 ≡ a / 64
  line = omega arith

  apart : (x : ℕ) → x ≡ 0 → x ≡ 1 → ⊥
  apart x zero_it one = omega arith

  least : (y : ℕ) → (bit_at bits (y % 64) ≡ 1) × (y / 64 ≡ a / 64) → first + z ≤ y
  least y has = by (less_or_not (y % 64) z)
    where
      after : (y z first a : ℕ) → first ≡ a / 64 * 64 → y / 64 ≡ a / 64 → z ≤ y % 64 → first + z ≤ y
      after y z first a at same past = omega arith

      by : (y % 64 < z) ⊎ (z ≤ y % 64) → first + z ≤ y
      by (inl below) = absurd (apart (bit_at bits (y % 64)) (none (y % 64) below) has.0)
      by (inr past) = after y z first a at has.1 past

  pub lowest_here : IsLeast (λ t. (bit_at bits (t % 64) ≡ 1) × (t / 64 ≡ a / 64)) (Some (first + z))
  lowest_here = ((ap (bit_at bits) place ∙ set, line), least)

pub none_set : (bits a : ℕ) → bits ≡ 0 → IsLeast (λ t. (bit_at bits (t % 64) ≡ 1) × (t / 64 ≡ a / 64)) None
none_set bits a empty y has = clash (bit_at bits (y % 64)) (ap (λ n. bit_at n (y % 64)) empty ∙ bit_at-zero (y % 64)) has.0
  where
    clash : (x : ℕ) → x ≡ 0 → x ≡ 1 → ⊥
    clash x zero_it one = omega arith

pub lowest_set : (bits a first z : ℕ) → 0 < bits → bits < 2 ^ 64 → first ≡ a / 64 * 64 → z ≡ trailing_zeros w64 bits → IsLeast (λ t. (bit_at bits (t % 64) ≡ 1) × (t / 64 ≡ a / 64)) (Some (first + z))
lowest_set bits a first z some fits at is =
    let found = bit_at-trailing_zeros w64 bits some fits in
    lowest_here bits a first z at (subst (λ n. n < 64) (sym is) found.0) (ap (bit_at bits) is ∙ found.1) (λ i below. found.2 i (subst (λ n. i < n) is below))

-- the bits after that of an address
module _ (bits a : ℕ) where
  pub kept_after : (i : ℕ) → a % 64 < i → i < 64 → bit_at (bit_and bits ((2 ^ 64 - 1) * 2 ^ (a % 64 + 1) % 2 ^ 64)) i ≡ bit_at bits i
  kept_after i less inside =
      bit_at_and bits ((2 ^ 64 - 1) * 2 ^ (a % 64 + 1) % 2 ^ 64) i
      ∙ ap (λ m. min (bit_at bits i) (bit_at m i)) (ones_shl 64 (a % 64 + 1) (omega arith))
      ∙ ap (min (bit_at bits i)) (bit_at_mask_inside (a % 64 + 1) 64 i (omega arith) inside)
      ∙ with_one (bit_at bits i) (bit_at-lt bits i)
    where
      with_one : (x : ℕ) → x < 2 → min x 1 ≡ x
      with_one x p = omega arith

  pub none_before : (i : ℕ) → i ≤ a % 64 → bit_at (bit_and bits ((2 ^ 64 - 1) * 2 ^ (a % 64 + 1) % 2 ^ 64)) i ≡ 0
  none_before i past =
      bit_at_and bits ((2 ^ 64 - 1) * 2 ^ (a % 64 + 1) % 2 ^ 64) i
      ∙ ap (λ m. min (bit_at bits i) (bit_at m i)) (ones_shl 64 (a % 64 + 1) (omega arith))
      ∙ ap (min (bit_at bits i)) (bit_at_mask_below (a % 64 + 1) 64 i (omega arith))
      ∙ with_none (bit_at bits i)
    where
      with_none : (x : ℕ) → min x 0 ≡ 0
      with_none x = omega arith
