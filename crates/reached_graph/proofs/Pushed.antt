-- What holds of the items of two lists at each place, from one place of the first on, and of one more.
use Rattle.std.proofs.Common.{◌≡◌, ℕ, ◌+◌, ◌<◌, List, [], ◌∷◌, ◌++◌, length, get_or, sym, ap, ◌∙◌, subst, below_more, refl, arith}
use Rattle.std.proofs.lemmas.List.{get_or_append_left, get_or_push, length_push}

module _ (Holds : ℕ → ℕ → ℕ → Type 0) where
  -- of place j, with the default d, this holds of its item
  pub each_more : (x : ℕ) (old new : List ℕ) → new ≡ old ++ x ∷ [] → ((j d : ℕ) → j < length old → Holds j d (get_or old j d)) → ((d : ℕ) → Holds (length old) d x)
      → (j d : ℕ) → j < length new → Holds j d (get_or new j d)
  each_more x old new pushed before last j d below =
      below_more (λ (k : ℕ). Holds k d (get_or new k d)) (length old)
      (λ k less. subst (Holds k d) (sym (ap (λ (ys : List ℕ). get_or ys k d) pushed ∙ get_or_append_left old (x ∷ []) d k less)) (before k d less))
      (subst (Holds (length old) d) (sym (ap (λ (ys : List ℕ). get_or ys (length old) d) pushed ∙ get_or_push old x d (length old) refl)) (last d))
      j (omega (arith, below, ap length pushed, length_push old x))

pub size_more : (x : ℕ) (old new : List ℕ) → new ≡ old ++ x ∷ [] → length new ≡ length old + 1
size_more x old new pushed = ap length pushed ∙ length_push old x
