-- Rows of a table of extensions: what a file has to name, and which bits a word has to have.
use Rattle.std.specs.Prelude.{ℕ, Bool, not, ◌==◌, ◌&&◌, if◌then◌else◌, List, [], ◌∷◌, Option, Some, None}
use Rattle.std.specs.List.{list_all, list_any}
use Rattle.elf_image.specs.declared.extensions.Extensions.{Extensions}
use Rattle.rv_decode.specs.Fields.{field}
use Rattle.rv_decode.specs.declared.instructions.Insn.{Insn}
use Rattle.rv_float.specs.Table.{is_among}

-- what a word has to meet: its bits `high` to `low` are one of these values; or they differ from its
-- bits `other_high` to `other_low`
pub data Condition : Type 0 where
  bits : (high low : ℕ) → List ℕ → Condition
  differ : (high low other_high other_low : ℕ) → Condition

-- a row: which files name what it asks for, what a word must meet, and the instruction that such a
-- word then is
pub record Row : Type 0 where
  pub named : Extensions → Bool
  pub conditions : List Condition
  pub meaning : ℕ → Insn

abbrev pub row : (Extensions → Bool) → List Condition → (ℕ → Insn) → Row
row named conditions meaning =
    record { named = named; conditions = conditions; meaning = meaning }

-- whether a word meets a condition
abbrev pub meets : ℕ → Condition → Bool
meets w (bits high low values) = is_among values (field w high low)
meets w (differ high low other_high other_low) =
    not (field w high low == field w other_high other_low)

-- whether a row holds of a word: the word meets each condition
abbrev pub holds : Row → ℕ → Bool
holds r w = list_all (meets w) r.conditions

-- the meaning of the first row that holds of a word and whose extensions are named
abbrev pub first_meaning : Extensions → List Row → ℕ → Option Insn
first_meaning e [] w = None
first_meaning e (r ∷ rs) w =
    if holds r w && r.named e then Some (r.meaning w) else first_meaning e rs w

-- the conditions by the names of their fields
abbrev pub opcode_is : ℕ → Condition
opcode_is n = bits 6 0 (n ∷ [])

abbrev pub funct3_in : List ℕ → Condition
funct3_in values = bits 14 12 values

abbrev pub funct7_in : List ℕ → Condition
funct7_in values = bits 31 25 values

abbrev pub rs2_in : List ℕ → Condition
rs2_in values = bits 24 20 values
