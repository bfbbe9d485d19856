-- The first key of a tree set is the least of its members.
use Rattle.std.proofs.Common.{◌≡◌, ◌≢◌, ℕ, zero, suc, ◌<◌, Bool, true, false, refl, List, [], ◌∷◌, length, sym, ap, ◌∙◌, arith}
use Rattle.std.specs.Prelude.{Option, Some, None, IsSome, IsTrue, IfSome}
use Rattle.std.specs.Option.{option_copied}
use Rattle.std.specs.Borrow.{Bor}
use Rattle.std.proofs.lemmas.Map.Keys.{le_from_not_gt}
use Rattle.std.specs.List.{list_any}
use Rattle.std.specs.declared.cmp.Ordering.{Ordering}
use Rattle.std.specs.declared.cmp.Ordering.TheVariants.{Less, Equal, Greater}
use Rattle.std.specs.Ordering.{nat_cmp, is_gt}
use Rattle.std.specs.Cmp.{IsTotalOrder}
use Rattle.std.specs.FinSet as sets
use Rattle.std.specs.BTreeMap.{is_at}
use Rattle.core_state.specs.Least.{IsLeast, IsLeastBy}
use Rattle.core_state.proofs.SeenSet.{member}

not_greater : (r : Ordering) → is_gt r ≡ false → r ≢ Greater
not_greater r e g = cc (ap is_gt g)

empty_has_none : {K : Type 0} (p : K → Bool) (ks : List K) → length ks ≡ 0 → list_any p ks ≡ false
empty_has_none p [] e = refl
empty_has_none p (k ∷ ks) e = absurd (omega arith)

module _ {K : Type 0} {R : K → K → Ordering} (total : IsTotalOrder R) (exact : sets.IsAntisymmetric R) (ks : List K) where
  pub none_in_empty : length ks ≡ 0 → IsLeastBy R (λ q. IsTrue (sets.contains (sets.from_list {R = R} ks) q)) None
  none_in_empty e q has = cc (member total exact ks q ∙ has, empty_has_none (is_at (R q)) ks e)

  pub first_is_least : (k : K) → list_any (is_at (R k)) ks ≡ true → ((q : K) → list_any (is_at (R q)) ks ≡ true → is_gt (R k q) ≡ false)
      → IsLeastBy R (λ q. IsTrue (sets.contains (sets.from_list {R = R} ks) q)) (Some k)
  first_is_least k has least = (sym (member total exact ks k) ∙ has, λ q is. not_greater (R k q) (least q (member total exact ks q ∙ is)))

  pub least_of_first : (r : Option (Bor K)) (o : Option K) → o ≡ option_copied r → (0 < length ks → IsSome r) → IfSome r (λ k. list_any (is_at (R k.now)) ks ≡ true)
      → IfSome r (λ k. (q : K) → list_any (is_at (R q)) ks ≡ true → is_gt (R k.now q) ≡ false) → IsLeastBy R (λ q. IsTrue (sets.contains (sets.from_list {R = R} ks) q)) o
  least_of_first None o e some has least = rw e (none_in_empty (no_more (length ks) some))
    where
      no_more : (n : ℕ) → (0 < n → IsSome {T = Bor K} None) → n ≡ 0
      no_more zero some = refl
      no_more (suc n) some = cc (some (omega arith))
  least_of_first (Some k) o e some has least = rw e (first_is_least k.now has least)

pub least_number : (P : ℕ → Type 0) (o : Option ℕ) → IsLeastBy nat_cmp P o → IsLeast P o
least_number P None least = least
least_number P (Some x) least = (least.0, λ y is. le_from_not_gt x y (not_gt (nat_cmp x y) (least.1 y is)))
  where
    not_gt : (r : Ordering) → r ≢ Greater → is_gt r ≡ false
    not_gt Less e = refl
    not_gt Equal e = refl
    not_gt Greater e = absurd (e refl)
