-- The sum of masks, which grows whenever one has more bits.
use Rattle.std.proofs.Common.{◌≢◌, ℕ, ◌*◌, ◌^◌, ◌<◌, ◌≤◌, List, length, get_or, set, sum, Fits, w32, arith}
use Rattle.std.proofs.lemmas.List.Sums.{sum_by-set, sum_by-le}
use Rattle.std.proofs.lemmas.List.Elements.{All-from_get_or}

pub sum_grows : (xs : List ℕ) (i new : ℕ) → i < length xs → get_or xs i 0 ≤ new → sum xs ≤ sum (set xs i new)
sum_grows xs i new within le = omega (arith, sum_by-set (λ x. x) xs i new 0 within)

pub sum_rises : (xs : List ℕ) (i new : ℕ) → i < length xs → get_or xs i 0 ≤ new → new ≢ get_or xs i 0 → sum xs < sum (set xs i new)
sum_rises xs i new within le apart = omega (arith, sum_by-set (λ x. x) xs i new 0 within)

-- masks of 32 bits
pub sum_bounded : (xs : List ℕ) → ((i : ℕ) → get_or xs i 0 < 2 ^ 32) → sum xs ≤ length xs * 2 ^ 32
sum_bounded xs fits = sum_by-le (λ x. x) (2 ^ 32) xs (All-from_get_or (λ x. x ≤ 2 ^ 32) xs 0 (λ i within. omega (arith, fits i)))

-- what is known of a slice of masks
pub fit_of : (xs : List ℕ) → ((i : ℕ) → Fits w32 (get_or xs i 0)) → (i : ℕ) → get_or xs i 0 < 2 ^ 32
fit_of xs fits i = omega (arith, fits i)
