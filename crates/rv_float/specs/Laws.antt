-- What the float table and the four compressed forms keep, whatever the word.
use Rattle.std.specs.Prelude.{◌≡◌, ℕ, Some, None, IsTrue, slice_get}
use Rattle.rv_decode.specs.Table as base
use Rattle.rv_decode.specs.declared.instructions.Insn.{Insn}
use Rattle.rvc_expand.specs.Table as compressed
use Rattle.rv_float.specs.Table.{Row, float_rows, float_instruction}
use Rattle.rv_float.specs.Forms.{float_expansion}

-- the float table has this row at place i
abbrev pub IsRowAt : ℕ → Row → Type 0
IsRowAt i r = slice_get float_rows i ≡ Some r

-- At most one row of the float table holds of a word.
abbrev pub AtMostOneRowHolds : Type 0
AtMostOneRowHolds =
    (w i j : ℕ) (r s : Row) → IsRowAt i r → IsRowAt j s → IsTrue (r.holds w) → IsTrue (s.holds w)
    → i ≡ j

-- A word is an instruction of one of the two tables at most.
abbrev pub TablesAreApart : Type 0
TablesAreApart = (w : ℕ) (found : Insn) → float_instruction w ≡ Some found
    → base.instruction w ≡ None

-- A halfword expands by one of the two tables of compressed forms at most.
abbrev pub FormsAreApart : Type 0
FormsAreApart = (half word : ℕ) → float_expansion half ≡ Some word
    → compressed.expansion half ≡ None
