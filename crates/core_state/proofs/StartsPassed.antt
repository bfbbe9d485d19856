-- A walk over the starts of a shard, from the least one on.
use Rattle.std.proofs.Common.{◌≡◌, ℕ, ◌+◌, ◌<◌, ◌≤◌, ◌⊎◌, ◌↔◌, List, [], ◌∷◌, ◌++◌, Option, Some, None, sym, subst, inl, inr, ⊎_elim, arith}
use Rattle.std.specs.List.{Contains}
use Rattle.std.proofs.lemmas.Bool.{cases_lt}
use Rattle.std.proofs.lemmas.List.Elements.{Contains-append_left, Contains-push, Contains-push_cases}
use Rattle.core_state.specs.Least.{IsAbove, IsLeast}

-- a was passed where the walk stands at this address
abbrev pub IsPassed : Option ℕ → ℕ → Type 0
IsPassed None a = ⊥
IsPassed (Some at) a = a ≤ at

-- how far the walk is
abbrev pub passed : Option ℕ → ℕ
passed None = 0
passed (Some at) = at + 1

-- those are listed of which this holds, up to where the walk stands
abbrev pub ArePassed : (ℕ → Type 0) → Option ℕ → List ℕ → Type 0
ArePassed Such at listed = (a : ℕ) → Contains listed a ↔ (Such a × IsPassed at a)

passed_or_above : (at : Option ℕ) (a : ℕ) → IsPassed at a ⊎ IsAbove at a
passed_or_above None a = inr tt
passed_or_above (Some at) a = ⊎_elim (λ lt. inr lt) (λ ge. inl ge) (cases_lt at a)

passed_less : (at : Option ℕ) (a k : ℕ) → IsPassed at a → IsAbove at k → a < k
passed_less None a k was above = absurd was
passed_less (Some at) a k was above = let low : a ≤ at = was in let high : at < k = above in omega arith

module _ (Such : ℕ → Type 0) (at : Option ℕ) (old : List ℕ) (before : ArePassed Such at old) where
  pub passes : (k : ℕ) → IsLeast (λ a. Such a × IsAbove at a) (Some k) → (new : List ℕ) → new ≡ old ++ k ∷ [] → ArePassed Such (Some k) new
  passes k next new pushed = subst (ArePassed Such (Some k)) (sym pushed) (λ a. (
    λ there. ⊎_elim
        (λ had. let is = (before a).0 had in let less : a < k = passed_less at a k is.1 next.0.1 in let low : a ≤ k = omega arith in (is.0, low))
        (λ (same : k ≡ a). let low : a ≤ k = omega arith in (subst Such same next.0.0, low))
        (Contains-push_cases old k a there),
    λ is. ⊎_elim
        (λ was. Contains-append_left old (k ∷ []) a ((before a).1 (is.0, was)))
        (λ above. let high : k ≤ a = next.1 a (is.0, above) in let low : a ≤ k = is.1 in let same : k ≡ a = omega arith in subst (Contains (old ++ k ∷ [])) same (Contains-push old k))
        (passed_or_above at a),
  ))

  pub all_passed : IsLeast (λ a. Such a × IsAbove at a) None → (a : ℕ) → Contains old a ↔ Such a
  all_passed none a = (
    λ there. ((before a).0 there).0,
    λ is. (before a).1 (is, ⊎_elim (λ was. was) (λ above. absurd (none a (is, above))) (passed_or_above at a)),
  )
