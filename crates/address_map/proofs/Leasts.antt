-- The least of what two facts hold of.
use Rattle.std.proofs.Common.{◌≡◌, ℕ, ◌≤◌, subst, sym, arith}
use Rattle.std.specs.Prelude.{Option, Some, None, min, ◌⊎◌}
use mathlib.Core.Logic.{inl, inr}
use Rattle.address_map.specs.Least.{IsLeast, lesser_of}

pub least_as : (P Q : ℕ → Type 0) (o : Option ℕ) → ((k : ℕ) → P k → Q k) → ((k : ℕ) → Q k → P k) → IsLeast P o → IsLeast Q o
least_as P Q None to fro least = λ k q. least k (fro k q)
least_as P Q (Some x) to fro least = (to x least.0, λ k q. least.1 k (fro k q))

-- the lesser of the least of two kinds is the least of both
pub least_either : (P Q : ℕ → Type 0) (x y : Option ℕ) → IsLeast P x → IsLeast Q y → IsLeast (λ k. P k ⊎ Q k) (lesser_of x y)
least_either P Q None None p q = λ k e. elim e [ inl h ↦ p k h | inr h ↦ q k h ]
least_either P Q None (Some y) p q = (inr q.0, λ k e. elim e [ inl h ↦ absurd (p k h) | inr h ↦ q.1 k h ])
least_either P Q (Some x) None p q = (inl p.0, λ k e. elim e [ inl h ↦ p.1 k h | inr h ↦ absurd (q k h) ])
least_either P Q (Some x) (Some y) p q = (one (min_is x y), λ k e. elim e [ inl h ↦ low_first x y k (p.1 k h) | inr h ↦ low_second x y k (q.1 k h) ])
  where
    min_is : (x y : ℕ) → (min x y ≡ x) ⊎ (min x y ≡ y)
    min_is x y = grind arith

    one : (min x y ≡ x) ⊎ (min x y ≡ y) → P (min x y) ⊎ Q (min x y)
    one (inl e) = inl (subst P (sym e) p.0)
    one (inr e) = inr (subst Q (sym e) q.0)

    low_first : (x y k : ℕ) → x ≤ k → min x y ≤ k
    low_first x y k h = omega arith

    low_second : (x y k : ℕ) → y ≤ k → min x y ≤ k
    low_second x y k h = omega arith
