-- The near and the far addresses of a map, and the map.
use Rattle.std.proofs.Common.{◌≡◌, ◌≢◌, ℕ, ◌/◌, ◌%◌, zero, suc, refl, [], ◌∷◌, subst, sym, ap, ◌∙◌, arith}
use Rattle.std.specs.Prelude.{Option, Some, None, IsSome, is_some, IfSome, IfNone, ◌⊎◌, if◌then◌else◌}
use mathlib.Core.Logic.{inl, inr, ⊎_elim}
use Rattle.std.specs.Ordering.{nat_cmp}
use Rattle.std.specs.Cmp.{nat_cmp_total}
use Rattle.std.specs.FinMap as maps
use Rattle.std.proofs.lemmas.Bool.{eq-eqb, ne_eqb}
use Rattle.address_map.proofs.OneEntry.{same_or_other}
use Rattle.address_map.specs.Joined.{joined}
use Rattle.address_map.specs.Least.{IsLeast}
use Rattle.address_map.specs.Least.{lesser_of}
use Rattle.address_map.specs.Keys.{IsKeyAbove, IsNextInPage}
use Rattle.address_map.specs.inner.Grouped.{chunk_of, page_of, region_of, side_of, AreParts, AreInRegion, IsNextByPlace}
use Rattle.address_map.specs.Found.{IsFoundAmong}
use Rattle.address_map.proofs.PartsJoined.{same_there, read_joined, none_there}
use Rattle.address_map.proofs.Leasts.{least_as, least_either}

pub on_near : (n k : ℕ) → region_of k ≡ n → 0 ≡ side_of n k
on_near n k same = sym (ap (λ b. if b then 0 else 1) (eq-eqb (region_of k) n same))

pub on_far : (n k : ℕ) → region_of k ≢ n → 1 ≡ side_of n k
on_far n k other = sym (ap (λ b. if b then 0 else 1) (ne_eqb (region_of k) n other))

-- the chunk of an address by the number of its page, and the other way round
chunk_by_page : (x : ℕ) → chunk_of x ≡ x / 4096 / 64
chunk_by_page x = omega arith

chunk_same : (x a : ℕ) → x / 4096 ≡ a / 4096 → chunk_of x ≡ chunk_of a
chunk_same x a e = chunk_by_page x ∙ ap (λ p. p / 64) e ∙ sym (chunk_by_page a)

one_page : (x a : ℕ) → chunk_of x ≡ chunk_of a → page_of x ≡ page_of a → x / 4096 ≡ a / 4096
one_page x a chunk page = put_together (x / 4096) (a / 4096) (sym (chunk_by_page x) ∙ chunk ∙ chunk_by_page a) page
  where
    put_together : (p q : ℕ) → p / 64 ≡ q / 64 → p % 64 ≡ q % 64 → p ≡ q
    put_together p q quotient rest = omega arith

same_region : (x a : ℕ) → chunk_of x ≡ chunk_of a → region_of x ≡ region_of a
same_region x a e = omega arith

-- nothing belongs anywhere
pub nothing_apart : {X : Type 0} (home : ℕ → ℕ) (near far : maps.FinMap nat_cmp X) → near ≡ maps.empty → far ≡ maps.empty → AreParts home (near ∷ far ∷ [])
nothing_apart home near far e f zero a has = absurd (none_there _ a (subst (λ (m : maps.FinMap nat_cmp _). IsSome (maps.get m a)) e has))
nothing_apart home near far e f (suc zero) a has = absurd (none_there _ a (subst (λ (m : maps.FinMap nat_cmp _). IsSome (maps.get m a)) f has))
nothing_apart home near far e f (suc (suc i)) a has = absurd (none_there _ a has)

pub nothing_joined : {X : Type 0} (near far : maps.FinMap nat_cmp X) → near ≡ maps.empty → far ≡ maps.empty → joined (near ∷ far ∷ []) ≡ maps.empty
nothing_joined near far e f =
    maps.same_map nat_cmp_total maps.nat_cmp-IsAntisymmetric _ _
    (λ q. read_joined (λ _. 0) (near ∷ far ∷ []) (nothing_apart (λ _. 0) near far e f) q ∙ ap (λ m. maps.get m q) e)

module _ {X : Type 0} (n : ℕ) (near far m : maps.FinMap nat_cmp X) (are : AreParts (side_of n) (near ∷ far ∷ [])) (seen : joined (near ∷ far ∷ []) ≡ m) where
  pub in_near : (k : ℕ) → region_of k ≡ n → maps.get near k ≡ maps.get m k
  in_near k same = same_there (side_of n) (near ∷ far ∷ []) are k 0 (on_near n k same) (omega arith) near refl m seen

  pub in_far : (k : ℕ) → region_of k ≢ n → maps.get far k ≡ maps.get m k
  in_far k other = same_there (side_of n) (near ∷ far ∷ []) are k 1 (on_far n k other) (omega arith) far refl m seen

  pub near_own : AreInRegion near n
  near_own k has = by (same_or_other (region_of k) n)
    where
      by : (region_of k ≡ n) ⊎ (region_of k ≢ n) → region_of k ≡ n
      by (inl same) = same
      by (inr other) = let one = on_far n k other ∙ are 0 k has in absurd (omega (arith, one))

  pub far_own : (k : ℕ) → IsSome (maps.get far k) → region_of k ≢ n
  far_own k has same = let none = on_near n k same ∙ are 1 k has in omega (arith, none)

  from_near : (k : ℕ) → IsSome (maps.get near k) → IsSome (maps.get m k)
  from_near k has = ap is_some (sym (in_near k (near_own k has))) ∙ has

  from_far : (k : ℕ) → IsSome (maps.get far k) → IsSome (maps.get m k)
  from_far k has = ap is_some (sym (in_far k (far_own k has))) ∙ has

  parted : (k : ℕ) → IsSome (maps.get m k) → IsSome (maps.get near k) ⊎ IsSome (maps.get far k)
  parted k has = by (same_or_other (region_of k) n)
    where
      by : (region_of k ≡ n) ⊎ (region_of k ≢ n) → IsSome (maps.get near k) ⊎ IsSome (maps.get far k)
      by (inl same) = inl (ap is_some (in_near k same) ∙ has)
      by (inr other) = inr (ap is_some (in_far k other) ∙ has)

  pub after_both : (a x y : Option ℕ) → IsLeast (IsKeyAbove near a) x → IsLeast (IsKeyAbove far a) y → IsLeast (IsKeyAbove m a) (lesser_of x y)
  after_both a x y low high =
      least_as (λ k. IsKeyAbove near a k ⊎ IsKeyAbove far a k) (IsKeyAbove m a) (lesser_of x y)
      (λ k h. elim h [ inl e ↦ (from_near k e.0, e.1) | inr e ↦ (from_far k e.0, e.1) ])
      (λ k h. elim (parted k h.0) [ inl has ↦ inl (has, h.1) | inr has ↦ inr (has, h.1) ])
      (least_either (IsKeyAbove near a) (IsKeyAbove far a) x y low high)

  pub page_near : (a : ℕ) → region_of a ≡ n → (o : Option ℕ) → IsLeast (IsNextByPlace near a) o → IsLeast (IsNextInPage m a) o
  page_near a same o least =
      least_as (IsNextByPlace near a) (IsNextInPage m a) o
      (λ k h. (from_near k h.0, h.1, one_page k a h.2 h.3))
      (λ k h. (ap is_some (in_near k (same_region k a (chunk_same k a h.2) ∙ same)) ∙ h.0, h.1, chunk_same k a h.2, ap (λ p. p % 64) h.2)) least

  pub page_far : (a : ℕ) → region_of a ≢ n → (o : Option ℕ) → IsLeast (IsNextByPlace far a) o → IsLeast (IsNextInPage m a) o
  page_far a other o least =
      least_as (IsNextByPlace far a) (IsNextInPage m a) o
      (λ k h. (from_far k h.0, h.1, one_page k a h.2 h.3))
      (λ k h. (ap is_some (in_far k (λ same. other (sym (same_region k a (chunk_same k a h.2)) ∙ same))) ∙ h.0, h.1, chunk_same k a h.2, ap (λ p. p % 64) h.2)) least

  -- what is found in the one or the other
  module _ {A : Type 0} (At : ℕ → X → A → Type 0) where
    pub found_near : (thing : A) → IsFoundAmong At near thing → IsFoundAmong At m thing
    found_near thing found = record { key = found.key; entry = found.entry; has = sym (in_near found.key (near_own found.key (ap is_some found.has))) ∙ found.has; there = found.there }

    pub found_far : (thing : A) → IsFoundAmong At far thing → IsFoundAmong At m thing
    found_far thing found = record { key = found.key; entry = found.entry; has = sym (in_far found.key (far_own found.key (ap is_some found.has))) ∙ found.has; there = found.there }

    pub found_parted : (thing : A) → IsFoundAmong At m thing → IsFoundAmong At near thing ⊎ IsFoundAmong At far thing
    found_parted thing found = by (same_or_other (region_of found.key) n)
      where
        by : (region_of found.key ≡ n) ⊎ (region_of found.key ≢ n) → IsFoundAmong At near thing ⊎ IsFoundAmong At far thing
        by (inl same) = inl (record { key = found.key; entry = found.entry; has = in_near found.key same ∙ found.has; there = found.there })
        by (inr other) = inr (record { key = found.key; entry = found.entry; has = in_far found.key other ∙ found.has; there = found.there })

    none_found : (thing : A) → ¬ IsFoundAmong At near thing → ¬ IsFoundAmong At far thing → ¬ IsFoundAmong At m thing
    none_found thing no_near no_far found = ⊎_elim no_near no_far (found_parted thing found)

    pub some_far : (o : Option A) → IfSome o (IsFoundAmong At far) → IfSome o (IsFoundAmong At m)
    some_far None found = tt
    some_far (Some x) found = found_far x found

    pub none_parted : {T : Type 0} (o : Option T) → ((thing : A) → ¬ IsFoundAmong At near thing) → IfNone o ((thing : A) → ¬ IsFoundAmong At far thing) → IfNone o ((thing : A) → ¬ IsFoundAmong At m thing)
    none_parted None no_near no_far = λ thing. none_found thing (no_near thing) (no_far thing)
    none_parted (Some x) no_near no_far = tt
