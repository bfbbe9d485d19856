-- What holds at each place of a list that grows at its end.
use Rattle.std.proofs.Common.{◌≡◌, ℕ, ◌+◌, ◌<◌, List, [], ◌∷◌, ◌++◌, length, get_or, below_more, sym, subst, arith}
use Rattle.std.proofs.lemmas.List.{get_or_push, get_or_append_left}

pub each_pushed : {X : Type 0} (P : ℕ → X → Type 0) (xs new : List X) (x : X) (i : ℕ) → length xs ≡ i → new ≡ xs ++ x ∷ []
    → ((j : ℕ) (d : X) → j < i → P j (get_or xs j d)) → P i x → (j : ℕ) (d : X) → j < i + 1 → P j (get_or new j d)
each_pushed {X} P xs new x i long is old here j d lt =
    subst (λ (l : List X). P j (get_or l j d)) (sym is)
    (below_more (λ (k : ℕ). P k (get_or (xs ++ x ∷ []) k d)) i
    (λ k below. subst (P k) (sym (get_or_append_left xs (x ∷ []) d k (omega arith))) (old k d below))
    (subst (P i) (sym (get_or_push xs x d i long)) here) j lt)
