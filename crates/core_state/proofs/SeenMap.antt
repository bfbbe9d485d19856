-- The entries of a tree map seen as a finite map: what a removal does.
use Rattle.std.proofs.Common.{◌≡◌, refl, Bool, cond, true, false, List, sym, ap, ◌∙◌}
use Rattle.std.specs.Prelude.{Some, None, Option}
use Rattle.std.specs.declared.cmp.Ordering.{Ordering}
use Rattle.std.specs.Ordering.{eq_by_cmp}
use Rattle.std.specs.Cmp.{IsTotalOrder, eq_by_cmp_equiv}
use Rattle.std.specs.FinMap as maps
use Rattle.std.specs.BTreeMap.{is_at}
use Rattle.std.specs.Map.{lookup}
use Rattle.address_map.proofs.OneEntry.{is_equal}

-- a list of entries, as another without k: what std says of a removal
abbrev pub TakesAt : {K X : Type 0} → (K → K → Ordering) → List (K × X) → List (K × X) → K → Type 0
TakesAt {K} R es fs k = (q : K) → lookup (is_at (R q)) fs ≡ cond (is_at (R k) q) None (lookup (is_at (R q)) es)

module _ {K X : Type 0} {R : K → K → Ordering} (total : IsTotalOrder R) (exact : maps.IsAntisymmetric R) where
  pub take : (es fs : List (K × X)) (k : K) → TakesAt R es fs k → maps.from_entries {R = R} fs ≡ maps.remove (maps.from_entries es) k
  take es fs k takes =
      maps.same_map total exact _ _
      (λ q. maps.get-from_entries total fs q ∙ takes q ∙ (λ i. cond ((eq_by_cmp_equiv total).symm k q i) None (sym (maps.get-from_entries total es q) i))
      ∙ sym (maps.get-remove total (maps.from_entries es) k q))

  tied_same : (m : maps.FinMap R X) (k q : K) (b : Bool) → eq_by_cmp R q k ≡ b → maps.get m k ≡ None → (v : Option X) → cond b None (cond b v (maps.get m q)) ≡ maps.get m q
  tied_same m k q true e none v = sym none ∙ maps.get_tied total m q k (is_equal (R q k) e)
  tied_same m k q false e none v = refl

  -- to take out what was new gives the map back
  pub take_new : (m : maps.FinMap R X) (k : K) (v : X) → maps.get m k ≡ None → maps.remove (maps.insert m k v) k ≡ m
  take_new m k v none =
      maps.same_map total exact _ _
      (λ q. maps.get-remove total (maps.insert m k v) k q ∙ ap (λ o. cond (eq_by_cmp R q k) None o) (maps.get-insert total m k v q)
      ∙ tied_same m k q (eq_by_cmp R q k) refl none (Some v))
