-- The entries of a tree map seen as a finite map: what it has, and what a change of one key does.
use Rattle.std.proofs.Common.{◌≡◌, ℕ, cond, false, List, sym, ap, ◌∙◌}
use Rattle.std.specs.Prelude.{Some, None, Option, is_some, IsSome}
use Rattle.std.specs.declared.cmp.Ordering.{Ordering}
use Rattle.std.specs.Ordering.{nat_cmp}
use Rattle.std.specs.Cmp.{IsTotalOrder, eq_by_cmp_equiv, nat_cmp_total}
use Rattle.std.specs.FinMap as maps
use Rattle.std.specs.BTreeMap.{is_at}
use Rattle.std.specs.Map.{lookup}
use Rattle.address_map.proofs.OneEntry.{insert_again}

-- a list of entries, as another with v put at k: what std says of an insertion
abbrev pub PutsAt : {K X : Type 0} → (K → K → Ordering) → List (K × X) → List (K × X) → K → X → Type 0
PutsAt {K} R es fs k v = (q : K) → lookup (is_at (R q)) fs ≡ cond (is_at (R k) q) (Some v) (lookup (is_at (R q)) es)

module _ {K X : Type 0} {R : K → K → Ordering} (total : IsTotalOrder R) (exact : maps.IsAntisymmetric R) (es : List (K × X)) (m : maps.FinMap R X) (seen : maps.from_entries es ≡ m) where
  pub found : (q : K) → lookup (is_at (R q)) es ≡ maps.get m q
  found q = sym (maps.get-from_entries total es q) ∙ ap (λ n. maps.get n q) seen

  pub put : (k : K) (v : X) (fs : List (K × X)) → PutsAt R es fs k v → maps.from_entries fs ≡ maps.insert m k v
  put k v fs puts =
      maps.same_map total exact _ _
      (λ q. maps.get-from_entries total fs q ∙ puts q ∙ (λ i. cond ((eq_by_cmp_equiv total).symm k q i) (Some v) (found q i))
      ∙ sym (maps.get-insert total m k v q))

-- one entry of a map from numbers
module _ {X : Type 0} (es : List (ℕ × X)) (m : maps.FinMap nat_cmp X) (seen : maps.from_entries es ≡ m) (k : ℕ) where
  pub entry : (o : Option X) → lookup (is_at (nat_cmp k)) es ≡ o → maps.get m k ≡ o
  entry o had = sym (found nat_cmp_total maps.nat_cmp-IsAntisymmetric es m seen k) ∙ had

  pub putting : (fs : List (ℕ × X)) (new : X) → PutsAt nat_cmp es fs k new → maps.from_entries fs ≡ maps.insert m k new
  putting fs new puts = put nat_cmp_total maps.nat_cmp-IsAntisymmetric es m seen k new fs puts

  pub known : IsSome (maps.get m k) → IsSome (lookup (is_at (nat_cmp k)) es)
  known has = ap is_some (found nat_cmp_total maps.nat_cmp-IsAntisymmetric es m seen k) ∙ has

  -- an entry that is put in its own place changes nothing
  pub stays : (old new : X) → lookup (is_at (nat_cmp k)) es ≡ Some old → new ≡ old → (fs : List (ℕ × X)) → PutsAt nat_cmp es fs k new → maps.from_entries fs ≡ m
  stays old new had same fs puts = putting fs new puts ∙ ap (λ e. maps.insert m k e) same ∙ insert_again m k old (entry (Some old) had)

-- there is no value
pub not_there : {X : Type 0} (o : Option X) → is_some o ≡ false → ¬ IsSome o
not_there o e h = cc

pub none_is_not : {X : Type 0} (o : Option X) → o ≡ None → ¬ IsSome o
none_is_not o e h = not_there o (ap is_some e) h
