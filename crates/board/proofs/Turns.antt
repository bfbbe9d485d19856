-- What a seat is between the steps of one turn.
use Rattle.std.proofs.Common.{◌≡◌, ℕ, List, [], ◌∷◌, Option, Some, None, sym, ap, ◌∙◌}
use Rattle.std.specs.Prelude.{is_some}
use Rattle.atomic_table.specs.Table.{Me, rest}
use Rattle.board.specs.declared.view.View.{View}
use Rattle.board.specs.declared.piece.Piece.{Piece}
use Rattle.board.specs.Seat.{Notes, Values, HasSlot}
use Rattle.board.specs.Plays.{values_at}

-- the value of the slot that a seat took last
value_of : List (ℕ × Option Piece) → Option Piece
value_of [] = None
value_of (x ∷ xs) = x.1

-- the slot that a seat took last can be exchanged
pub slot_out : (i : ℕ) (x : Option Piece) (l : List (ℕ × Option Piece)) → l ≡ (i, x) ∷ [] → (y : Option Piece) × (l ≡ (i, y) ∷ rest l)
slot_out i x l had = (x, had ∙ ap (λ (xs : List (ℕ × Option Piece)). (i, x) ∷ rest xs) (sym had))

-- a read of the value that is out
pub found_is : (i : ℕ) (x found : Option Piece) (m : Me (Option Piece) View) → m.1 ≡ (i, x) ∷ [] → m.1 ≡ (i, found) ∷ rest m.1 → found ≡ x
unfolding value_of
found_is i x found m had is = ap value_of (sym is ∙ had)

pub laid : (i : ℕ) (x new : Option Piece) (m e : Me (Option Piece) View) → m.1 ≡ (i, x) ∷ [] → e ≡ (m.0, (i, new) ∷ rest m.1) → e.1 ≡ (i, new) ∷ []
laid i x new m e had is = ap (λ m. m.1) is ∙ ap (λ (l : List (ℕ × Option Piece)). (i, new) ∷ rest l) had

pub rest_of : (i : ℕ) (x : Option Piece) (l m : List (ℕ × Option Piece)) → l ≡ (i, x) ∷ [] → m ≡ rest l → m ≡ []
rest_of i x l m is then = then ∙ ap rest is

pub has_values : (notes : Notes) (i : ℕ) (values : Values) → values_at notes i ≡ Some values → HasSlot notes i
has_values notes i values e = ap is_some e

-- the slot lies at home again
pub left : (i : ℕ) (x : Option Piece) (m e d : Me (Option Piece) View) → e.0 ≡ m.0 → e.1 ≡ (i, x) ∷ [] → d ≡ (record e.0 { out = None }, rest e.1) → d ≡ (record m.0 { out = None }, [])
left i x m e d view had is =
    let gone : rest e.1 ≡ [] = ap rest had in
    is ∙ λ k. (record { notes = (view k).notes; out = None }, gone k)

-- the empty slot was filled
pub filled : (i : ℕ) (x new : Option Piece) (m e d : Me (Option Piece) View) → e ≡ (record m.0 { out = Some i }, (i, x) ∷ m.1) → m.1 ≡ [] → d ≡ (e.0, (i, new) ∷ rest e.1) → d ≡ (record m.0 { out = Some i }, (i, new) ∷ [])
filled i x new m e d is none then =
    let none_left : rest e.1 ≡ [] = ap (λ (p : Me (Option Piece) View). rest p.1) is ∙ none in
    then ∙ λ k. ((is k).0, (i, new) ∷ none_left k)
