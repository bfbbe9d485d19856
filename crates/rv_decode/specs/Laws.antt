-- What the instruction table keeps, whatever the word.
use Rattle.std.specs.Prelude.{◌≡◌, ◌≢◌, ◌↔◌, ℕ, Some, None, IsTrue, IsFalse, slice_get}
use Rattle.rv_decode.specs.Fields.{field}
use Rattle.rv_decode.specs.Table.{Row, holds, rows, instruction}
use Rattle.rv_decode.specs.declared.instructions.Insn.{Insn}

-- the table has this row at place i
abbrev pub IsRowAt : ℕ → Row → Type 0
IsRowAt i r = slice_get rows i ≡ Some r

-- At most one row holds of a word: two rows that both hold of it stand at one place of the table.
abbrev pub AtMostOneRowHolds : Type 0
AtMostOneRowHolds =
    (w i j : ℕ) (r s : Row)
    → IsRowAt i r
    → IsRowAt j s
    → IsTrue (holds r w)
    → IsTrue (holds s w)
    → i ≡ j

-- If a row holds of a word, the word is what this row means, wherever the row stands in the table.
abbrev pub ARowDecides : Type 0
ARowDecides =
    (w i : ℕ) (r : Row) → IsRowAt i r → IsTrue (holds r w) → instruction w ≡ Some (r.meaning w)

-- Each instruction of a word comes from a row that holds of the word.
abbrev pub EachComesFromARow : Type 0
EachComesFromARow =
    (w : ℕ) (found : Insn)
    → instruction w ≡ Some found
    → (i : ℕ) × (r : Row) × IsRowAt i r × IsTrue (holds r w) × (found ≡ r.meaning w)

-- A word is no instruction exactly if no row holds of it.
abbrev pub NoneWhereNoRowHolds : Type 0
NoneWhereNoRowHolds =
    (w : ℕ) → (instruction w ≡ None) ↔ ((i : ℕ) (r : Row) → IsRowAt i r → IsFalse (holds r w))

-- Only words of 32-bit instructions are instructions (section 1.5): their bits 1 to 0 are 11, and
-- their bits 4 to 2 are not 111.
abbrev pub EachHas32Bits : Type 0
EachHas32Bits =
    (w : ℕ) (found : Insn) → instruction w ≡ Some found → (field w 1 0 ≡ 3) × (field w 4 2 ≢ 7)
