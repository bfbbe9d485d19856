-- The least of some names: it is unique, and one more seed adds its own.
use Rattle.std.proofs.Common.{◌≡◌, ℕ, Bool, true, false, List, Option, Some, None, refl, sym, ap, ◌∙◌, subst, inl, inr, Ordering}
use Rattle.std.specs.Prelude.{◌⊎◌, IfSome}
use Rattle.std.specs.Ordering.{nat_cmp, is_lt, is_eq, ordering_reverse}
use Rattle.std.specs.Cmp.Lexicographic.{slice_cmp, texts_ties, same_text}
use Rattle.std.specs.declared.cmp.Ordering.TheVariants.{Less, Equal, Greater}
use Rattle.std.proofs.lemmas.Bool.{cases_Bool, both_ways}
use Rattle.std.proofs.lemmas.Cmp.{nat_list_cmp_total, tied_itself}
use Rattle.std.proofs.lemmas.Option.{IfSome_then}
use Rattle.elf_image.specs.Seeds.{lesser}
use Rattle.elf_symbols.specs.declared.seed.Seed.{Seed}
use Rattle.elf_symbols.specs.Inner.Names.{text_of}
use Rattle.elf_symbols.specs.Inner.Names.{lesser_name, IsNoLess, IsLeastName}

-- t is less than s
abbrev less : List ℕ → List ℕ → Bool
less t s = is_lt (slice_cmp nat_cmp t s)

-- the laws of the order of texts that are used
neither : (o : Ordering) → is_lt o ≡ false → is_lt (ordering_reverse o) ≡ false → is_eq o ≡ true
neither Less a b = absurd (cc)
neither Equal a b = refl
neither Greater a b = absurd (cc)

is_less : (o : Ordering) → is_lt o ≡ true → o ≡ Less
is_less Less a = refl
is_less Equal a = absurd (cc)
is_less Greater a = absurd (cc)

same_texts : (s t : List ℕ) → less s t ≡ false → less t s ≡ false → s ≡ t
same_texts s t a b =
    same_text s t (sym (texts_ties s t ∙ neither (slice_cmp nat_cmp s t) a (ap is_lt (sym (nat_list_cmp_total.antisymm t s)) ∙ b)))

not_itself : (s : List ℕ) → less s s ≡ false
not_itself s = ap is_lt (tied_itself nat_list_cmp_total s)

less_trans : (s t u : List ℕ) → less s t ≡ true → less t u ≡ true → less s u ≡ true
less_trans s t u a b = ap is_lt (nat_list_cmp_total.trans s t u (is_less _ a) (is_less _ b))

-- what is no less than the first of two names, or than the second, is no less than the lesser
no_less-first : (o p q : Option (List ℕ)) → IsNoLess o q → IsNoLess (lesser_name o p) q
no_less-first o p None h = tt
no_less-first None p (Some v) h = absurd h
no_less-first (Some s) None (Some v) h = h
no_less-first (Some s) (Some t) (Some v) h = elim (cases_Bool (less t s)) [
  | inl below ↦ rw below (elim (cases_Bool (less v t)) [
    | inl under ↦ absurd (both_ways (less v s) h (less_trans v t s under below))
    | inr above ↦ above
  ])
  | inr above ↦ rw above h
]

no_less-second : (o p : Option (List ℕ)) → IsNoLess (lesser_name o p) p
no_less-second o None = tt
no_less-second None (Some t) = not_itself t
no_less-second (Some s) (Some t) = elim (cases_Bool (less t s)) [
  | inl below ↦ rw below (not_itself t)
  | inr above ↦ rw above above
]

-- what holds of two names holds of the lesser
if_lesser : (o p : Option (List ℕ)) (P : List ℕ → Type 0) → IfSome o P → IfSome p P → IfSome (lesser_name o p) P
if_lesser None p P h g = g
if_lesser (Some s) None P h g = h
if_lesser (Some s) (Some t) P h g = elim (cases_Bool (less t s)) [
  | inl below ↦ rw below g
  | inr above ↦ rw above h
]

if_some : (o : Option (List ℕ)) (P : List ℕ → Type 0) → ((t : List ℕ) → o ≡ Some t → P t) → IfSome o P
if_some None P h = tt
if_some (Some t) P h = h t refl

-- a second name adds nothing where it is none
pub lesser-none : (o : Option (List ℕ)) → lesser_name o None ≡ o
lesser-none None = refl
lesser-none (Some s) = refl

-- the order of two names does not matter
lesser-comm : (s t : List ℕ) → lesser s t ≡ lesser t s
lesser-comm s t = elim (cases_Bool (less t s)) [
  | inl below ↦ elim (cases_Bool (less s t)) [
    | inl over ↦ absurd (both_ways (less s s) (not_itself s) (less_trans s t s over below))
    | inr above ↦ rw (below, above) refl
  ]
  | inr above ↦ elim (cases_Bool (less s t)) [
    | inl over ↦ rw (above, over) refl
    | inr under ↦ rw (above, under) (same_texts s t under above)
  ]
]

pub lesser_name-comm : (o p : Option (List ℕ)) → lesser_name o p ≡ lesser_name p o
lesser_name-comm None None = refl
lesser_name-comm None (Some t) = refl
lesser_name-comm (Some s) None = refl
lesser_name-comm (Some s) (Some t) = ap Some (lesser-comm s t)

-- there is one least name at most
pub least-unique : (bytes : List ℕ) (In : Seed → Type 0) (a : ℕ) (o p : Option (List ℕ)) → IsLeastName bytes In a o → IsLeastName bytes In a p → o ≡ p
least-unique bytes In a None None h g = refl
least-unique bytes In a None (Some t) h g = absurd (subst (IsNoLess None) g.some.3 (h.least g.some.0 g.some.1 g.some.2))
least-unique bytes In a (Some s) None h g = absurd (subst (IsNoLess None) h.some.3 (g.least h.some.0 h.some.1 h.some.2))
least-unique bytes In a (Some s) (Some t) h g =
    ap Some (same_texts s t (subst (IsNoLess (Some t)) h.some.3 (g.least h.some.0 h.some.1 h.some.2)) (subst (IsNoLess (Some s)) g.some.3 (h.least g.some.0 g.some.1 g.some.2)))

-- of no seeds
pub least-none : (bytes : List ℕ) (In : Seed → Type 0) (a : ℕ) → ((s : Seed) → In s → ⊥) → IsLeastName bytes In a None
least-none bytes In a none = record { some = tt; least = λ s there e. absurd (none s there) }

-- of the same seeds
pub least-same : (bytes : List ℕ) (In Out : Seed → Type 0) (a : ℕ) (o : Option (List ℕ)) → ((s : Seed) → In s → Out s) → ((s : Seed) → Out s → In s) → IsLeastName bytes In a o → IsLeastName bytes Out a o
least-same bytes In Out a o to fro h =
    record { some = IfSome_then o h.some (λ t it. (it.0, to it.0 it.1, it.2, it.3)); least = λ s there e. h.least s (fro s there) e }

-- of one more seed
module _ (bytes : List ℕ) (In Out : Seed → Type 0) (x : Seed) (old : (s : Seed) → In s → Out s) (new : Out x) (parts : (s : Seed) → Out s → In s ⊎ (x ≡ s)) (a : ℕ) (o : Option (List ℕ)) where
  pub least-here : x.address ≡ a → IsLeastName bytes In a o → IsLeastName bytes Out a (lesser_name o (text_of bytes x))
  least-here at h =
      let P : List ℕ → Type 0 = λ t. (s : Seed) × Out s × (s.address ≡ a) × (text_of bytes s ≡ Some t) in
      record {
        some = if_lesser o (text_of bytes x) P (IfSome_then o h.some (λ t it. (it.0, old it.0 it.1, it.2, it.3))) (if_some (text_of bytes x) P (λ t is. (x, new, at, is)));
        least = λ s there e. elim (parts s there) [
          | inl before ↦ no_less-first o (text_of bytes x) (text_of bytes s) (h.least s before e)
          | inr same ↦ subst (λ y. IsNoLess (lesser_name o (text_of bytes x)) (text_of bytes y)) same (no_less-second o (text_of bytes x))
        ];
      }

  pub least-there : (x.address ≡ a → ⊥) → IsLeastName bytes In a o → IsLeastName bytes Out a o
  least-there elsewhere h =
      record {
        some = IfSome_then o h.some (λ t it. (it.0, old it.0 it.1, it.2, it.3));
        least = λ s there e. elim (parts s there) [
          | inl before ↦ h.least s before e
          | inr same ↦ absurd (elsewhere (ap (λ (y : Seed). y.address) same ∙ e))
        ];
      }
