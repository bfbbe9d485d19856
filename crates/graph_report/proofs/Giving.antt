-- Pieces of a text, from the page that they are made on.
use Rattle.std.proofs.Common.{◌≡◌, ◌≢◌, ℕ, ◌<◌, List, [], ◌∷◌, ◌++◌, length, take, drop, Some, None, refl, sym, ap, ◌∙◌, append-nil, arith, inl, inr, subst, length-drop}
use Rattle.std.specs.Prelude.{min}
use Rattle.std.proofs.lemmas.Bool.{cases_lt}
use Rattle.std.proofs.Math.Seq.{take-length, drop-length}
use Rattle.std.proofs.lemmas.List.{take-append-le, drop-append-le, take-append-drop, take_all, drop_all, nil_from_length}
use Rattle.graph_report.specs.declared.page.TheConstants.{PIECE}
use Rattle.graph_report.specs.Pieces.{GivesPiece}

-- nothing is on the page and nothing behind it
pub none_given : (old page left : List ℕ) (n : ℕ) → n ≡ min (length page) PIECE → old ≡ page ++ left
    → (length page < PIECE → left ≡ []) → n ≡ 0 → GivesPiece old None (drop n page ++ left)
none_given old page left n is whole filled none =
    let empty : page ≡ [] = nil_from_length page (omega (arith, is)) in
    let nothing : left ≡ [] = filled (omega (arith, is)) in
    (whole ∙ rw (empty, nothing) refl, rw (empty, nothing, none) refl)

nothing_on : (page left : List ℕ) → page ++ left ≡ [] → min (length page) PIECE ≡ 0
nothing_on [] left h = refl
nothing_on (x ∷ xs) left h = absurd (cc)

-- the front of the page is a piece
some_given : (old page left : List ℕ) (n : ℕ) → n ≡ min (length page) PIECE → old ≡ page ++ left
    → (length page < PIECE → left ≡ []) → n ≢ 0 → GivesPiece old (Some (take n page)) (drop n page ++ left)
some_given old page left n is whole filled some =
    let not_empty : old ≢ [] = λ none. some (is ∙ nothing_on page left (sym whole ∙ none)) in
    elim (cases_lt (length page) PIECE) [
      | inl few ↦
          let nothing : left ≡ [] = filled few in
          let all : old ≡ page = whole ∙ ap (λ (xs : List ℕ). page ++ xs) nothing ∙ append-nil page in
          let n_is : n ≡ length page = omega (arith, is) in (
            not_empty,
            rw (n_is, all) (take-length page ∙ sym (take_all PIECE page (omega arith))),
            rw (n_is, all, nothing) (append-nil (drop (length page) page) ∙ drop-length page ∙ sym (drop_all PIECE page (omega arith))),
          )
      | inr many ↦
          let n_is : n ≡ PIECE = omega (arith, is) in (
            not_empty,
            rw (n_is, whole) (sym (take-append-le PIECE page left many)),
            rw (n_is, whole) (sym (drop-append-le PIECE page left many)),
          )
    ]

-- the same of bytes that are read off the page
pub some_read : (old page bytes left : List ℕ) (n : ℕ) → n ≡ min (length page) PIECE → old ≡ page ++ left
    → (length page < PIECE → left ≡ []) → n ≢ 0 → bytes ≡ page → GivesPiece old (Some (take n bytes)) (drop n page ++ left)
some_read old page bytes left n is whole filled some same =
    let P : List ℕ → Type 0 = λ xs. GivesPiece old (Some (take n xs)) (drop n page ++ left) in
    subst P (sym same) (some_given old page left n is whole filled some)

-- what a piece leaves is shorter
pub piece_shortens : (old new piece : List ℕ) → GivesPiece old (Some piece) new → length new < length old
piece_shortens [] new piece (some, is, left) = absurd (some refl)
piece_shortens (x ∷ xs) new piece (some, is, left) = omega (arith, ap length left, length-drop PIECE (x ∷ xs))

-- a piece and what it leaves are all
pub piece_and_rest : (old new piece : List ℕ) → GivesPiece old (Some piece) new → piece ++ new ≡ old
piece_and_rest old new piece (some, is, left) = rw (is, left) (take-append-drop PIECE old)
