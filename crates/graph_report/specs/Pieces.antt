-- A text that is given out piece by piece.
use Rattle.std.specs.Prelude.{◌≡◌, ◌≢◌, ℕ, List, [], take, drop, Option, Some, None}
use Rattle.graph_report.specs.declared.page.TheConstants.{PIECE}

-- What is given of the text that is still to come, and what it leaves: the first 4,096 bytes, or
-- all if there are fewer; no piece exactly if nothing is to come.
abbrev pub GivesPiece : List ℕ → Option (List ℕ) → List ℕ → Type 0
GivesPiece text None left = (text ≡ []) × (left ≡ [])
GivesPiece text (Some piece) left =
    (text ≢ []) × (piece ≡ take PIECE text) × (left ≡ drop PIECE text)
