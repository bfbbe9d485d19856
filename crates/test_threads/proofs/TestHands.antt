-- The hands of a pool of two, for the tests.
use Rattle.std.proofs.Common.{◌≡◌, ℕ, zero, suc, List, [], ◌∷◌, Some, length, refl, sym, subst, arith}
use Rattle.std.specs.List.{slice_get}
use Rattle.std.proofs.lemmas.Option.{same_Some, none-some}
use Rattle.steal_pool.specs.Pool.{PoolValue, HandValue, workers_of, IsHandOf, IsFresh, AreFresh, AreAllHands}

pub two_hands : (pool : PoolValue) (h0 h1 h2 : List HandValue) (a b : HandValue) → AreFresh pool 0 h0 → h0 ≡ a ∷ h1 → h1 ≡ b ∷ h2 → IsFresh pool 0 a × IsFresh pool 1 b
two_hands pool h0 h1 h2 a b fresh is is' =
    let first : IsFresh pool 0 a × AreFresh pool 1 h1 = subst (AreFresh pool 0) is fresh in
    let second : IsFresh pool 1 b × AreFresh pool 2 h2 = subst (AreFresh pool 1) is' first.1 in
    (first.0, second.0)

pub both_hands : (pool : PoolValue) (a b : HandValue) → workers_of pool ≡ 2 → IsHandOf pool a × IsHandOf pool b → (a.number ≡ 0) × (b.number ≡ 1) → AreAllHands pool (a ∷ b ∷ [])
both_hands pool a b workers hands numbers = (sym workers, each)
  where
    each : (k : ℕ) (hand : HandValue) → slice_get (a ∷ b ∷ []) k ≡ Some hand → IsHandOf pool hand × (hand.number ≡ k)
    each zero hand at = subst (λ h. IsHandOf pool h × (h.number ≡ 0)) (same_Some _ _ at) (hands.0, numbers.0)
    each (suc zero) hand at = subst (λ h. IsHandOf pool h × (h.number ≡ 1)) (same_Some _ _ at) (hands.1, numbers.1)
    each (suc (suc k)) hand at = absurd (none-some _ at)
