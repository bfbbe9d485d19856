-- Sums over the numbers below a bound, compared term by term.
use Rattle.std.proofs.Common.{◌≡◌, ◌≢◌, ℕ, zero, suc, ◌+◌, ◌*◌, ◌<◌, ◌≤◌, subst, sym, arith}
use Rattle.std.specs.Prelude.{◌⊎◌}
use mathlib.Core.Logic.{inl, inr}
use Rattle.std.proofs.Math.Nat.{mul-le-mul_right}
use Rattle.cfg_model.proofs.Program.MapFacts.{same_or_other}
use Rattle.work_ops.specs.inner.Measure.{sum_below}

pub sum_le : (n : ℕ) (f g : ℕ → ℕ) → ((i : ℕ) → i < n → f i ≤ g i) → sum_below n f ≤ sum_below n g
unfolding sum_below
sum_le zero f g each = omega arith
sum_le (suc n) f g each =
    let rest : sum_below n f ≤ sum_below n g = sum_le n f g (λ i below. each i (omega (arith, below))) in
    let last : f n ≤ g n = each n (omega arith) in
    omega (arith, rest, last)

-- one term may be larger by c
pub sum_up : (n : ℕ) (f g : ℕ → ℕ) (a c : ℕ) → ((i : ℕ) → i < n → i ≢ a → f i ≤ g i) → f a ≤ g a + c → sum_below n f ≤ sum_below n g + c
unfolding sum_below
sum_up zero f g a c each there = omega arith
sum_up (suc n) f g a c each there = split (same_or_other n a) (sum_up n f g a c (λ i below. each i (omega (arith, below))) there)
  where
    split : (n ≡ a) ⊎ (n ≢ a) → sum_below n f ≤ sum_below n g + c → sum_below n f + f n ≤ sum_below n g + g n + c
    split (inl same) more =
        let rest : sum_below n f ≤ sum_below n g = sum_le n f g (λ i below. each i (omega (arith, below)) (λ e. omega (arith, below, e, same))) in
        let last : f n ≤ g n + c = subst (λ z. f z ≤ g z + c) (sym same) there in
        omega (arith, rest, last)
    split (inr other) more =
        let last : f n ≤ g n = each n (omega arith) other in
        omega (arith, more, last)

-- one term is smaller by c
pub sum_down : (n : ℕ) (f g : ℕ → ℕ) (a c : ℕ) → a < n → ((i : ℕ) → i < n → i ≢ a → f i ≤ g i) → f a + c ≤ g a → sum_below n f + c ≤ sum_below n g
unfolding sum_below
sum_down zero f g a c below each there = absurd (omega (arith, below))
sum_down (suc n) f g a c below each there = split (same_or_other n a) (λ before. sum_down n f g a c before (λ i under. each i (omega (arith, under))) there)
  where
    split : (n ≡ a) ⊎ (n ≢ a) → (a < n → sum_below n f + c ≤ sum_below n g) → sum_below n f + f n + c ≤ sum_below n g + g n
    split (inl same) less =
        let rest : sum_below n f ≤ sum_below n g = sum_le n f g (λ i under. each i (omega (arith, under)) (λ e. omega (arith, under, e, same))) in
        let last : f n + c ≤ g n = subst (λ z. f z + c ≤ g z) (sym same) there in
        omega (arith, rest, last)
    split (inr other) less =
        let apart : a ≢ n = λ e. other (sym e) in
        let before : a < n = omega (arith, below, apart) in
        let rest = less before in
        let last : f n ≤ g n = each n (omega arith) other in
        omega (arith, rest, last)

-- where each term is at most one, the sum is at most n
pub sum_ones : (n : ℕ) (f : ℕ → ℕ) → ((i : ℕ) → f i ≤ 1) → sum_below n f ≤ n
unfolding sum_below
sum_ones zero f each = omega arith
sum_ones (suc n) f each =
    let rest : sum_below n f ≤ n = sum_ones n f each in
    let last : f n ≤ 1 = each n in
    omega (arith, rest, last)

-- numbers of two digits: the first one counts first
pub digits : (a b c d base : ℕ) → c < a → d < base → c * base + d < a * base + b
digits a b c d base first fits =
    let more : (c + 1) * base ≤ a * base = mul-le-mul_right base (omega (arith, first)) in
    omega (arith, more, fits)
