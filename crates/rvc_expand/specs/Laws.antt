-- What the compressed table keeps, whatever the halfword.
use Rattle.std.specs.Prelude.{◌≡◌, ◌↔◌, ℕ, Some, None, IsTrue, IsFalse, slice_get}
use Rattle.rvc_expand.specs.Bits.{field}
use Rattle.rvc_expand.specs.Table.{Form, forms, expansion}

-- the table has this form at place i
abbrev pub IsFormAt : ℕ → Form → Type 0
IsFormAt i f = slice_get forms i ≡ Some f

-- At most one form holds of a halfword: two forms that both hold of it stand at one place of the
-- table.
abbrev pub AtMostOneFormHolds : Type 0
AtMostOneFormHolds =
    (half i j : ℕ) (f g : Form)
    → IsFormAt i f
    → IsFormAt j g
    → IsTrue (f.holds half)
    → IsTrue (g.holds half)
    → i ≡ j

-- If a form holds of a halfword, the halfword expands to this form's word, wherever the form stands
-- in the table.
abbrev pub AFormDecides : Type 0
AFormDecides =
    (half i : ℕ) (f : Form)
    → IsFormAt i f
    → IsTrue (f.holds half)
    → expansion half ≡ Some (f.word half)

-- Each expansion comes from a form that holds of the halfword.
abbrev pub EachComesFromAForm : Type 0
EachComesFromAForm =
    (half word : ℕ) → expansion half ≡ Some word
    → (i : ℕ) × (f : Form) × IsFormAt i f × IsTrue (f.holds half) × (word ≡ f.word half)

-- A halfword does not expand exactly if no form holds of it.
abbrev pub NoneWhereNoFormHolds : Type 0
NoneWhereNoFormHolds =
    (half : ℕ)
    → (expansion half ≡ None) ↔ ((i : ℕ) (f : Form) → IsFormAt i f → IsFalse (f.holds half))

-- No halfword of quadrant 3, whose lowest two bits are 11, expands.
abbrev pub NoneOfQuadrant3 : Type 0
NoneOfQuadrant3 = (half : ℕ) → field half 1 0 ≡ 3 → expansion half ≡ None
