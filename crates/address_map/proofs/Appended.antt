-- What is found in two lists of entries, one after the other.
use Rattle.std.proofs.Common.{◌≡◌, ℕ, Bool, cond, true, false, refl, List, [], ◌∷◌, ◌++◌}
use Rattle.std.specs.Prelude.{Option, Some, None, IsSome}
use Rattle.std.specs.Ordering.{nat_cmp, eq_by_cmp}
use Rattle.std.specs.FinMap.{find}

module _ {X : Type 0} where
  abbrev pub or_else : Option X → Option X → Option X
  or_else None y = y
  or_else (Some x) y = Some x

  branch : (b : Bool) (x : X) (r s t : Option X) → r ≡ or_else s t → cond b (Some x) r ≡ or_else (cond b (Some x) s) t
  branch true x r s t e = refl
  branch false x r s t e = e

  pub find_append : (q : ℕ) (es fs : List (ℕ × X)) → find nat_cmp q (es ++ fs) ≡ or_else (find nat_cmp q es) (find nat_cmp q fs)
  find_append q [] fs = refl
  find_append q (e ∷ es) fs = branch (eq_by_cmp nat_cmp q e.0) e.1 _ _ _ (find_append q es fs)

  pub or_none : (o : Option X) → or_else o None ≡ o
  or_none None = refl
  or_none (Some x) = refl

  pub none_of : (o : Option X) → ¬ IsSome o → o ≡ None
  none_of None never = refl
  none_of (Some x) never = absurd (never refl)
