-- The keys of a tree set seen as a finite set: what it has, and what a change of one key does.
use Rattle.std.proofs.Common.{◌≡◌, refl, Bool, cond, true, false, not, List, sym, ap, ◌∙◌}
use Rattle.std.specs.Prelude.{◌||◌, ◌&&◌}
use Rattle.std.specs.List.{list_any}
use Rattle.std.specs.declared.cmp.Ordering.{Ordering}
use Rattle.std.specs.Ordering.{eq_by_cmp}
use Rattle.std.specs.Cmp.{IsTotalOrder, eq_by_cmp_equiv}
use Rattle.std.specs.FinSet as sets
use Rattle.std.specs.BTreeMap.{is_at}
use Rattle.address_map.proofs.OneEntry.{is_equal}

-- a list of keys, as another with k as a member or not: what std says of a change
abbrev pub HasAt : {K : Type 0} → (K → K → Ordering) → List K → List K → K → Bool → Type 0
HasAt {K} R ks ls k has = (q : K) → list_any (is_at (R q)) ls ≡ cond (is_at (R k) q) has (list_any (is_at (R q)) ks)

or_cond : (b c : Bool) → cond b true c ≡ (b || c)
or_cond true c = refl
or_cond false c = refl

and_cond : (b c : Bool) → cond b false c ≡ (not b && c)
and_cond true c = refl
and_cond false c = refl

once_in : (b c : Bool) → (b ≡ true → c ≡ false) → (not b && (b || c)) ≡ c
once_in true c new = sym (new refl)
once_in false c new = refl

module _ {K : Type 0} {R : K → K → Ordering} (total : IsTotalOrder R) (exact : sets.IsAntisymmetric R) where
  pub member : (ks : List K) (q : K) → list_any (is_at (R q)) ks ≡ sets.contains (sets.from_list {R = R} ks) q
  member ks q = sym (sets.contains-from_list total ks q)

  pub seen_insert : (ks ls : List K) (k : K) → HasAt R ks ls k true → sets.from_list {R = R} ls ≡ sets.insert (sets.from_list ks) k
  seen_insert ks ls k has =
      sets.same_set total exact _ _
      (λ q. sym (member ls q) ∙ has q ∙ (λ i. cond ((eq_by_cmp_equiv total).symm k q i) true (member ks q i)) ∙ or_cond (eq_by_cmp R q k) (sets.contains (sets.from_list {R = R} ks) q)
      ∙ sym (sets.contains-insert total (sets.from_list ks) k q))

  pub seen_remove : (ks ls : List K) (k : K) → HasAt R ks ls k false → sets.from_list {R = R} ls ≡ sets.remove (sets.from_list ks) k
  seen_remove ks ls k has =
      sets.same_set total exact _ _
      (λ q. sym (member ls q) ∙ has q ∙ (λ i. cond ((eq_by_cmp_equiv total).symm k q i) false (member ks q i)) ∙ and_cond (eq_by_cmp R q k) (sets.contains (sets.from_list {R = R} ks) q)
      ∙ sym (sets.contains-remove total (sets.from_list ks) k q))

  -- to take out what was new gives the set back
  pub remove_new : (s : sets.FinSet R) (k : K) → sets.contains s k ≡ false → sets.remove (sets.insert s k) k ≡ s
  remove_new s k new =
      sets.same_set total exact _ _
      (λ q. sets.contains-remove total (sets.insert s k) k q ∙ ap (λ b. not (eq_by_cmp R q k) && b) (sets.contains-insert total s k q)
      ∙ once_in (eq_by_cmp R q k) (sets.contains s q) (λ same. sym (sets.contains_tied total s q k (is_equal (R q k) same)) ∙ new))
