-- What is kept in mind of halfwords stays true when one more is put in its place.
use Rattle.std.proofs.Common.{◌≡◌, ℕ, ◌⊎◌, inl, inr, Bool, true, false, List, length, get_or, slice_set, sym, ap, ◌∙◌, ⊎_elim}
use Rattle.std.proofs.lemmas.Bool.{cases_eq, cases_lt}
use Rattle.std.proofs.lemmas.List.{get_or-set_same, get_or-set_other, set_past}
use Rattle.elf_image.specs.declared.extensions.Extensions.{Extensions}
use Rattle.rv_flow.specs.declared.straight.ShortForm.{ShortForm}
use Rattle.rv_flow.specs.declared.straight.ShortForm.TheVariants.{Unasked, GoesOn, Stops}
use Rattle.rv_flow.specs.Inner.{AreTold, short_goes_on}

-- what stands at a place afterwards: what stood there, or at the place of the halfword its form
place : (shorts : List ShortForm) (half h : ℕ) (form : ShortForm) → (get_or (slice_set shorts half form) h Unasked ≡ get_or shorts h Unasked) ⊎ ((h ≡ half) × (get_or (slice_set shorts half form) h Unasked ≡ form))
place shorts half h form =
    elim (cases_eq h half) [
      | inl same ↦ elim (cases_lt half (length shorts)) [
        | inl within ↦ inr (same, ap (λ n. get_or (slice_set shorts half form) n Unasked) same ∙ get_or-set_same shorts half form Unasked within)
        | inr past ↦ inl (ap (λ l. get_or l h Unasked) (set_past shorts half form past))
      ]
      | inr other ↦ inl (get_or-set_other shorts half h form Unasked other)
    ]

pub kept_told : (e : Extensions) (shorts : List ShortForm) (half : ℕ) (form : ShortForm) → AreTold e shorts → (form ≡ GoesOn → short_goes_on e half ≡ true) → (form ≡ Stops → short_goes_on e half ≡ false) → AreTold e (slice_set shorts half form)
kept_told e shorts half form told on stops = record {
  on = λ h is. ⊎_elim (λ kept. told.on h (sym kept ∙ is)) (λ new. ap (short_goes_on e) new.0 ∙ on (sym new.1 ∙ is)) (place shorts half h form);
  stops = λ h is. ⊎_elim (λ kept. told.stops h (sym kept ∙ is)) (λ new. ap (short_goes_on e) new.0 ∙ stops (sym new.1 ∙ is)) (place shorts half h form);
}
