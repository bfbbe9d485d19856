-- Letters, entries and records that are read one after the other.
use Rattle.std.proofs.Common.{◌≡◌, ℕ, zero, suc, ◌+◌, ◌<◌, ◌≤◌, List, [], ◌∷◌, ◌++◌, length, get_or, drop, Some, None, eqb, refl, sym, ap, ◌∙◌, arith, append_assoc, append-nil, drop-cons, inl, inr}
use Rattle.std.specs.List.{flat_map}
use Rattle.std.specs.Option.{option_to_list}
use Rattle.std.proofs.lemmas.Bool.{cases_Bool}
use Rattle.std.proofs.lemmas.List.Concat.{flat_map-append}
use Rattle.landing_pads.specs.declared.common.Common.{Common}
use Rattle.landing_pads.specs.declared.range.Range.{Range}
use Rattle.landing_pads.specs.declared.table.Entry.{Entry}
use Rattle.landing_pads.specs.Place.{Place}
use Rattle.landing_pads.specs.Common.{letter, letters, body_at}
use Rattle.landing_pads.specs.Frame.{frame_at, frames_from, frames}
use Rattle.landing_pads.specs.Table.{entry, entries_from, entries, ranges_of, frame_ranges}

-- the first of the letters that are left says something
pub letters-more : (ls : List ℕ) (i : ℕ) (d : ℕ) (c next : Common) (p rest : Place) → i < length ls → letter (get_or ls i d) c p ≡ Some (next, rest) → letters (drop i ls) c p ≡ letters (drop (suc i) ls) next rest
letters-more ls i d c next p rest within is =
    ap (λ xs. letters xs c p) (drop-cons ls i d within) ∙ rw is refl

-- it says nothing
pub letters-none : (ls : List ℕ) (i : ℕ) (d : ℕ) (c : Common) (p : Place) → i < length ls → letter (get_or ls i d) c p ≡ None → letters (drop i ls) c p ≡ None
letters-none ls i d c p within is =
    ap (λ xs. letters xs c p) (drop-cons ls i d within) ∙ rw is refl

module _ (start base encoding : ℕ) where
  -- the ranges of one entry, and of those after it
  ranges-cons : (e : Entry) (es : List Entry) → ranges_of start base (e ∷ es) ≡ ranges_of start base (e ∷ []) ++ ranges_of start base es
  ranges-cons e es = elim (cases_Bool (eqb e.to 0)) [
    | inl zero_pad ↦ rw zero_pad refl
    | inr pad ↦ rw pad refl
  ]

  -- the ranges that were put, and those of the entries that are left, are all
  abbrev pub EntriesLeft : List Range → List Range → Place → Type 0
  EntriesLeft whole done rest = (n : ℕ) × (length rest.bytes ≤ n) × (done ++ ranges_of start base (entries_from n encoding rest) ≡ whole)

  entries-step : (n : ℕ) (rest : Place) (e : Entry) (next : Place) → entry encoding rest ≡ Some (e, next) → entries_from (suc n) encoding rest ≡ e ∷ entries_from n encoding next
  entries-step n rest e next is = rw is refl

  entries-stop : (n : ℕ) (rest : Place) → entry encoding rest ≡ None → entries_from n encoding rest ≡ []
  entries-stop zero rest none = refl
  entries-stop (suc n) rest none = rw none refl

  pub entries-start : (done : List Range) (p : Place) → EntriesLeft (done ++ ranges_of start base (entries encoding p)) done p
  unfolding entries
  entries-start done p = (length p.bytes, omega arith, refl)

  pub entries-more : (whole done more : List Range) (e : Entry) (rest next : Place) → entry encoding rest ≡ Some (e, next) → length next.bytes < length rest.bytes → more ≡ done ++ ranges_of start base (e ∷ []) → EntriesLeft whole done rest → EntriesLeft whole more next
  entries-more whole done more e rest next is shorter pushed (zero, fits, gives) = absurd (omega arith)
  entries-more whole done more e rest next is shorter pushed (suc n, fits, gives) = (
    n,
    omega arith,
    ap (λ rs. rs ++ ranges_of start base (entries_from n encoding next)) pushed
        ∙ append_assoc done (ranges_of start base (e ∷ [])) (ranges_of start base (entries_from n encoding next))
        ∙ ap (λ rs. done ++ rs) (sym (ranges-cons e (entries_from n encoding next)) ∙ ap (ranges_of start base) (sym (entries-step n rest e next is)))
        ∙ gives,
  )

  pub entries-end : (whole done : List Range) (rest : Place) → entry encoding rest ≡ None → EntriesLeft whole done rest → done ≡ whole
  entries-end whole done rest none (n, fits, gives) =
      sym (append-nil done) ∙ ap (λ es. done ++ ranges_of start base es) (sym (entries-stop n rest none)) ∙ gives

module _ (bytes : List ℕ) (section : Place) where
  -- the ranges that were put, and those of the records that are left, are all
  abbrev pub FramesLeft : List Range → List Range → ℕ → Type 0
  FramesLeft whole done at =
      (n : ℕ) × (at ≤ length section.bytes) × (length section.bytes ≤ at + n)
      × (done ++ flat_map (frame_ranges bytes) (frames_from n section at) ≡ whole)

  frames-step : (n at : ℕ) (body : Place) → body_at section at ≡ Some body → frames_from (suc n) section at ≡ option_to_list (frame_at section at body) ++ frames_from n section (at + 4 + length body.bytes)
  frames-step n at body is = rw is refl

  frames-stop : (n at : ℕ) → body_at section at ≡ None → frames_from n section at ≡ []
  frames-stop zero at none = refl
  frames-stop (suc n) at none = rw none refl

  pub frames-start : (done : List Range) → FramesLeft (done ++ flat_map (frame_ranges bytes) (frames section)) done 0
  unfolding frames
  frames-start done = (length section.bytes, omega arith, omega arith, refl)

  pub frames-more : (whole done more : List Range) (at next : ℕ) (body : Place) → body_at section at ≡ Some body → at + 4 + length body.bytes ≤ length section.bytes → next ≡ at + 4 + length body.bytes → more ≡ done ++ flat_map (frame_ranges bytes) (option_to_list (frame_at section at body)) → FramesLeft whole done at → FramesLeft whole more next
  frames-more whole done more at next body is within on pushed (zero, inside, fits, gives) = absurd (omega arith)
  frames-more whole done more at next body is within on pushed (suc n, inside, fits, gives) =
      let f = frame_ranges bytes in
      let here = option_to_list (frame_at section at body) in
      let rest = frames_from n section (at + 4 + length body.bytes) in (
        n,
        omega arith,
        omega arith,
        ap (λ k. more ++ flat_map f (frames_from n section k)) on
            ∙ ap (λ rs. rs ++ flat_map f rest) pushed
            ∙ append_assoc done (flat_map f here) (flat_map f rest)
            ∙ ap (λ rs. done ++ rs) (sym (flat_map-append f here rest) ∙ ap (flat_map f) (sym (frames-step n at body is)))
            ∙ gives,
      )

  pub frames-end : (whole done : List Range) (at : ℕ) → body_at section at ≡ None → FramesLeft whole done at → done ≡ whole
  frames-end whole done at none (n, inside, fits, gives) =
      sym (append-nil done) ∙ ap (λ fs. done ++ flat_map (frame_ranges bytes) fs) (sym (frames-stop n at none)) ∙ gives
