-- Ways that are linked to their ends.
use Rattle.std.proofs.Common.{◌≡◌, ℕ, ◌+◌, ◌<◌, ◌≤◌, ◌≢◌, ◌⊎◌, List, [], ◌∷◌, ◌++◌, length, get_or, refl, sym, ap, ◌∙◌, arith, inl, inr}
use Rattle.std.proofs.lemmas.Bool.{cases_order}
use Rattle.std.proofs.lemmas.List.{get_or_append_left, get_or_push, length_push}
use Rattle.reached_terms.specs.declared.marks.Way.{Way}
use Rattle.reached_terms.specs.Inner.Marks.{IsLast}

module _ (ways : List Way) (way : Way) where
  abbrev more : List Way
  more = ways ++ way ∷ []

  -- a way that was there
  pub old_way : (i : ℕ) (d : Way) → i < length ways → get_or more i d ≡ get_or ways i d
  old_way i d within = get_or_append_left ways (way ∷ []) d i within

  pub new_way : (d : Way) → get_or more (length ways) d ≡ way
  new_way d = get_or_push ways way d (length ways) refl

  -- each place of the longer list
  pub way_cases : (i : ℕ) → i < length more → (i < length ways) ⊎ (i ≡ length ways)
  way_cases i within = let size = length_push ways way in elim (cases_order i (length ways)) [
    | inl same ↦ inr same
    | inr other ↦ elim other [ inl less ↦ inl less | inr more ↦ absurd (omega arith) ]
  ]

  -- the last before a place that was there
  pub last-kept : (n end at : ℕ) → end ≤ length ways → IsLast ways n end at → IsLast more n end at
  last-kept n end at below last = record {
    within = last.within;
    none = λ j d from to is. last.none j d from to (sym (ap (λ (w : Way). w.to) (old_way j d (omega arith))) ∙ is);
    hit = λ p d is. ap (λ (w : Way). w.to) (old_way p d (omega (arith, last.within))) ∙ last.hit p d is;
  }

  -- the new one is the last that leads to its end
  pub last-new : IsLast more way.to (length more) (length ways + 1)
  last-new = let size = length_push ways way in record {
    within = omega arith;
    none = λ j d from to is. absurd (omega arith);
    hit = λ p d is.
        let at : p ≡ length ways = omega arith in
        ap (λ k. (get_or more k d).to) at ∙ ap (λ (w : Way). w.to) (new_way d);
  }

  -- of another end the last stays
  pub last-other : (n at : ℕ) → n ≢ way.to → IsLast ways n (length ways) at → IsLast more n (length more) at
  last-other n at other last = let size = length_push ways way in record {
    within = omega (arith, last.within);
    none = λ j d from to is. elim (cases_order j (length ways)) [
      | inl same ↦ other (sym is ∙ ap (λ k. (get_or more k d).to) same ∙ ap (λ (w : Way). w.to) (new_way d))
      | inr rest ↦ elim rest [
        | inl less ↦ last.none j d from less (sym (ap (λ (w : Way). w.to) (old_way j d less)) ∙ is)
        | inr above ↦ absurd (omega arith)
      ]
    ];
    hit = λ p d is. ap (λ (w : Way). w.to) (old_way p d (omega (arith, last.within))) ∙ last.hit p d is;
  }
