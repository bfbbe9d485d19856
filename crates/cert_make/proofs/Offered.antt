-- The first offers at places, one more offer at a time.
use Rattle.std.proofs.Common.{◌≡◌, ℕ, ◌+◌, ◌<◌, ◌≤◌, ◌⊎◌, List, Option, Some, None, length, get_or, set, sym, ap, ◌∙◌, subst, inl, inr, arith, ⊎_elim}
use Rattle.std.specs.Prelude.{IfSome, MatchOption}
use Rattle.std.proofs.lemmas.Bool.{cases_eq}
use Rattle.std.proofs.lemmas.List.{get_or-set_same, get_or-set_other, length-set}
use Rattle.cert_text.specs.declared.lines.LeadLine.{LeadLine}
use Rattle.cert_ends.proofs.Placed.{no_lead}
use Rattle.cert_make.specs.declared.exits.Exit.{Exit}
use Rattle.cert_make.specs.declared.firsts.Offer.{Offer}
use Rattle.cert_make.specs.Inner.Returns.{IsNotAfter}
use Rattle.cert_make.specs.Inner.Offers.{AreFirsts, IsFirstOf, IsTaken, IsUpTo, IsOwnOffer, IsHandedOn, exit_at}

pub through : (a b c d e f : ℕ) → IsNotAfter a b c d → IsNotAfter c d e f → IsNotAfter a b e f
through a b c d e f (inl lt) (inl more) = inl (omega arith)
through a b c d e f (inl lt) (inr same) = let e' : c ≡ e = same.0 in inl (omega arith)
through a b c d e f (inr same) (inl lt) = let e' : a ≡ c = same.0 in inl (omega arith)
through a b c d e f (inr same) (inr other) = let le : b ≤ d = same.1 in let le' : d ≤ f = other.1 in inr (same.0 ∙ other.0, omega arith)

-- ---- one place

pub first_same : (One Other : Offer → Type 0) (found : Option Offer) → ((o : Offer) → One o → Other o) → ((o : Offer) → Other o → One o) → IsFirstOf One found → IsFirstOf Other found
first_same One Other None there back none = λ x other. none x (back x other)
first_same One Other (Some w) there back first = (there w first.0, λ x other. first.1 x (back x other))

first_more : (Gives : Offer → Type 0) (old : Option Offer) (x w : Offer) → IsFirstOf Gives old → (w ≡ x) ⊎ (old ≡ Some w) → IsUpTo w x → IfSome old (IsUpTo w) → IsFirstOf (λ o. Gives o ⊎ (o ≡ x)) (Some w)
first_more Gives None x w none (inl same) new before = (inr same, λ y h. ⊎_elim (λ gives. absurd (none y gives)) (λ is. subst (IsUpTo w) (sym is) new) h)
first_more Gives None x w none (inr same) new before = absurd cc
first_more Gives (Some v) x w first which new before = (
  elim which [ inl same ↦ inr same | inr same ↦ let e : v ≡ w = cc in inl (subst Gives e first.0) ],
  λ y h. ⊎_elim (λ gives. through w.rank w.lead v.rank v.lead y.rank y.lead before (first.1 y gives)) (λ is. subst (IsUpTo w) (sym is) new) h,
)

-- ---- all places

pub none_first : (count : ℕ) (Gives : ℕ → Offer → Type 0) (firsts : List (Option Offer)) → length firsts ≡ count → ((i : ℕ) → i < count → get_or firsts i None ≡ None) → ((i : ℕ) (o : Offer) → Gives i o → ⊥) → AreFirsts count Gives firsts
none_first count Gives firsts long all none = record {
  long = long;
  each = λ i lt. subst (IsFirstOf (Gives i)) (sym (all i lt)) (none i);
}

pub firsts_same : (count : ℕ) (One Other : ℕ → Offer → Type 0) (firsts : List (Option Offer)) → ((i : ℕ) (o : Offer) → One i o → Other i o) → ((i : ℕ) (o : Offer) → Other i o → One i o) → AreFirsts count One firsts → AreFirsts count Other firsts
firsts_same count One Other firsts there back are = record {
  long = are.long;
  each = λ i lt. first_same (One i) (Other i) (get_or firsts i None) (there i) (back i) (are.each i lt);
}

pub taken : (count : ℕ) (Gives : ℕ → Offer → Type 0) (old new : List (Option Offer)) (place : ℕ) (x : Offer) → AreFirsts count Gives old → IsTaken old place x new → AreFirsts count (λ i o. Gives i o ⊎ ((i ≡ place) × (o ≡ x))) new
taken count Gives old new place x are one = record {
  long = one.as_many ∙ are.long;
  each = λ i lt. elim (cases_eq i place) [
    | inl e ↦
        let first : IsFirstOf (Gives i) (get_or old place None) = subst (λ n. IsFirstOf (Gives i) (get_or old n None)) e (are.each i lt) in
        let both = first_more (Gives i) (get_or old place None) x one.first first one.which one.up_to_new one.up_to_old in
        subst (IsFirstOf (λ o. Gives i o ⊎ ((i ≡ place) × (o ≡ x)))) (sym (ap (λ n. get_or new n None) e ∙ one.here))
        (first_same (λ o. Gives i o ⊎ (o ≡ x)) (λ o. Gives i o ⊎ ((i ≡ place) × (o ≡ x))) (Some one.first)
        (λ o h. elim h [ inl gives ↦ inl gives | inr same ↦ inr (e, same) ])
        (λ o h. elim h [ inl gives ↦ inl gives | inr both ↦ inr both.1 ])
        both)
    | inr ne ↦
        subst (IsFirstOf (λ o. Gives i o ⊎ ((i ≡ place) × (o ≡ x)))) (sym (one.others i ne))
        (first_same (Gives i) (λ o. Gives i o ⊎ ((i ≡ place) × (o ≡ x))) (get_or old i None)
        (λ o gives. inl gives)
        (λ o h. elim h [ inl gives ↦ gives | inr both ↦ absurd (ne both.0) ])
        (are.each i lt))
  ];
}

-- what a write does
pub is_taken : (old : List (Option Offer)) (place : ℕ) (x w : Offer) (was : Option Offer) → place < length old → was ≡ get_or old place None → (w ≡ x) ⊎ (was ≡ Some w) → IsUpTo w x → IfSome was (IsUpTo w) → IsTaken old place x (set old place (Some w))
is_taken old place x w was lt is which new before = record {
  as_many = length-set old place (Some w);
  others = λ j ne. get_or-set_other old place j (Some w) None ne;
  first = w;
  here = get_or-set_same old place (Some w) None lt;
  which = elim which [ inl same ↦ inl same | inr same ↦ inr (sym is ∙ same) ];
  up_to_new = new;
  up_to_old = subst (λ o. IfSome o (IsUpTo w)) is before;
}

-- ---- the leaders' own offers

pub own_more : (lines : List LeadLine) (of : List ℕ) (i end : ℕ) (x : Offer) (count : ℕ) (old new : List (Option Offer)) → get_or of i 0 ≡ end → ((d : LeadLine) → x.rank ≡ (get_or lines i d).rank) → ((d : LeadLine) → x.lead ≡ (get_or lines i d).at)
    → AreFirsts count (IsOwnOffer lines of i) old → IsTaken old end x new → AreFirsts count (IsOwnOffer lines of (i + 1)) new
own_more lines of i end x count old new at rank lead are one =
    firsts_same count (λ e o. IsOwnOffer lines of i e o ⊎ ((e ≡ end) × (o ≡ x))) (IsOwnOffer lines of (i + 1)) new
    (λ e o h. elim h [
      | inl own ↦ record { place = own.place; early = omega (arith, own.early); there = own.there; rank = own.rank; lead = own.lead }
      | inr both ↦ record { place = i; early = omega arith; there = at ∙ sym both.0; rank = λ d. ap (λ (y : Offer). y.rank) both.1 ∙ rank d; lead = λ d. ap (λ (y : Offer). y.lead) both.1 ∙ lead d }
    ])
    (λ e o own. elim (cases_eq own.place i) [
      | inl same ↦ inr (
        sym own.there ∙ ap (λ n. get_or of n 0) same ∙ at,
        offer_is o x (λ d. own.rank d ∙ ap (λ n. (get_or lines n d).rank) same ∙ sym (rank d)) (λ d. own.lead d ∙ ap (λ n. (get_or lines n d).at) same ∙ sym (lead d)),
      )
      | inr ne ↦ inl (record { place = own.place; early = omega (arith, own.early, ne); there = own.there; rank = own.rank; lead = own.lead })
    ])
    (taken count (IsOwnOffer lines of i) old new end x are one)
  where
    offer_is : (o y : Offer) → ((d : LeadLine) → o.rank ≡ y.rank) → ((d : LeadLine) → o.lead ≡ y.lead) → o ≡ y
    offer_is o y r l = ap (λ (n : ℕ). record { rank = n; lead = o.lead }) (r no_lead) ∙ ap (λ (n : ℕ). record { rank = y.rank; lead = n }) (l no_lead)

-- ---- the offers that are handed on

module _ (exits : List Exit) (offers : List (Option Offer)) (i count : ℕ) (old : List (Option Offer)) (are : AreFirsts count (IsHandedOn exits offers i) old) where
  pub handed_none : get_or offers (exit_at exits i).end None ≡ None → AreFirsts count (IsHandedOn exits offers (i + 1)) old
  handed_none none = firsts_same count (IsHandedOn exits offers i) (IsHandedOn exits offers (i + 1)) old
      (λ t o h. record { place = h.place; early = omega (arith, h.early); there = h.there; offered = h.offered })
      (λ t o h. elim (cases_eq h.place i) [
        | inl same ↦ let e : Some o ≡ None = sym h.offered ∙ ap (λ n. get_or offers (exit_at exits n).end None) same ∙ none in absurd cc
        | inr ne ↦ record { place = h.place; early = omega (arith, h.early, ne); there = h.there; offered = h.offered }
      ])
      are

  pub handed_one : (x : Offer) (new : List (Option Offer)) → get_or offers (exit_at exits i).end None ≡ Some x → IsTaken old (exit_at exits i).to x new → AreFirsts count (IsHandedOn exits offers (i + 1)) new
  handed_one x new is one = firsts_same count (λ t o. IsHandedOn exits offers i t o ⊎ ((t ≡ (exit_at exits i).to) × (o ≡ x))) (IsHandedOn exits offers (i + 1)) new
      (λ t o h. elim h [
        | inl earlier ↦ record { place = earlier.place; early = omega (arith, earlier.early); there = earlier.there; offered = earlier.offered }
        | inr both ↦ record { place = i; early = omega arith; there = sym both.0; offered = is ∙ ap Some (sym both.1) }
      ])
      (λ t o h. elim (cases_eq h.place i) [
        | inl same ↦
            let e : Some o ≡ Some x = sym h.offered ∙ ap (λ n. get_or offers (exit_at exits n).end None) same ∙ is in
            inr (sym h.there ∙ ap (λ n. (exit_at exits n).to) same, cc)
        | inr ne ↦ inl (record { place = h.place; early = omega (arith, h.early, ne); there = h.there; offered = h.offered })
      ])
      (taken count (IsHandedOn exits offers i) old new (exit_at exits i).to x are one)

  pub handed : (o : Option Offer) (new : List (Option Offer)) → get_or offers (exit_at exits i).end None ≡ o → MatchOption o (new ≡ old) (λ x. IsTaken old (exit_at exits i).to x new) → AreFirsts count (IsHandedOn exits offers (i + 1)) new
  handed None new is same = subst (AreFirsts count (IsHandedOn exits offers (i + 1))) (sym same) (handed_none is)
  handed (Some x) new is taken = handed_one x new is taken
