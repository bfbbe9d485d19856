-- The instructions of the F and D extensions (RISC-V Unprivileged ISA 20240411, chapters 21 and 22,
-- and "RV32/64G Instruction Set Listings"). Which words with reserved fields are taken is this
-- project's profile: the rows alone decide.
use Rattle.std.specs.Prelude.{ℕ, Bool, ◌&&◌, ◌==◌, if◌then◌else◌, List, [], ◌∷◌, ◌++◌, Option, Some}
use Rattle.std.specs.Prelude.{None}
use Rattle.std.specs.List.{list_any}
use Rattle.rv_decode.specs.Fields.{field, opcode, funct3, funct7, rd, rs1, rs2}
use Rattle.rv_decode.specs.declared.instructions.Insn.{Insn}
use Rattle.rv_decode.specs.declared.instructions.Insn.TheVariants.{Float}

-- a row of the table: which words it holds of, and the instruction that such a word is
pub record Row : Type 0 where
  pub holds : ℕ → Bool
  pub meaning : ℕ → Insn

abbrev pub row : (ℕ → Bool) → (ℕ → Insn) → Row
row holds meaning = record { holds = holds; meaning = meaning }

-- a number is one of these
abbrev pub is_among : List ℕ → ℕ → Bool
is_among values n = list_any (λ value. n == value) values

-- a rounding mode stands in funct3: one of the five, or the dynamic one (section 21.2)
abbrev pub rounds : ℕ → Bool
rounds w = is_among (0 ∷ 1 ∷ 2 ∷ 3 ∷ 4 ∷ 7 ∷ []) (funct3 w)

-- the two bits that tell a fused operation's precision, single or double
abbrev pub precision : ℕ → ℕ
precision w = field w 26 25

-- what becomes of the integer registers: none is used; rd is written; rs1 is read
abbrev pub within : ℕ → Insn
within w = Float 0 0

abbrev pub to_integer : ℕ → Insn
to_integer w = Float (rd w) 0

abbrev pub from_integer : ℕ → Insn
from_integer w = Float 0 (rs1 w)

-- opcode 07 and 27: loads and stores of a word or a doubleword (sections 21.5 and 22.3)
unfoldable pub memory_rows : List Row
memory_rows =
    row (λ w. opcode w == 0x07 && is_among (2 ∷ 3 ∷ []) (funct3 w)) from_integer ∷
    row (λ w. opcode w == 0x27 && is_among (2 ∷ 3 ∷ []) (funct3 w)) from_integer ∷ []

-- opcode 43, 47, 4B and 4F: fused multiplications and additions (sections 21.6 and 22.4)
abbrev pub fused_row : ℕ → Row
fused_row code = row (λ w. opcode w == code && is_among (0 ∷ 1 ∷ []) (precision w)
    && rounds w) within

unfoldable pub fused_rows : List Row
fused_rows = fused_row 0x43 ∷ fused_row 0x47 ∷ fused_row 0x4B ∷ fused_row 0x4F ∷ []

-- opcode 53: the other operations, by funct7
abbrev pub is_operation : List ℕ → ℕ → Bool
is_operation functions w = opcode w == 0x53 && is_among functions (funct7 w)

unfoldable pub operation_rows : List Row
operation_rows =
    -- FADD, FSUB, FMUL, FDIV
    row (λ w. is_operation (0x00 ∷ 0x01 ∷ 0x04 ∷ 0x05 ∷ 0x08 ∷ 0x09 ∷ 0x0C ∷ 0x0D ∷ []) w
    && rounds w) within ∷
    -- FSQRT
    row (λ w. is_operation (0x2C ∷ 0x2D ∷ []) w && rs2 w == 0 && rounds w) within ∷
    -- FCVT.S.D, FCVT.D.S
    row (λ w. is_operation (0x20 ∷ []) w && rs2 w == 1 && rounds w) within ∷
    row (λ w. is_operation (0x21 ∷ []) w && rs2 w == 0 && rounds w) within ∷
    -- FSGNJ, FSGNJN, FSGNJX
    row (λ w. is_operation (0x10 ∷ 0x11 ∷ []) w && is_among (0 ∷ 1 ∷ 2 ∷ []) (funct3 w)) within ∷
    -- FMIN, FMAX
    row (λ w. is_operation (0x14 ∷ 0x15 ∷ []) w && is_among (0 ∷ 1 ∷ []) (funct3 w)) within ∷
    -- FLE, FLT, FEQ
    row (λ w. is_operation (0x50 ∷ 0x51 ∷ []) w
    && is_among (0 ∷ 1 ∷ 2 ∷ []) (funct3 w)) to_integer ∷
    -- FCVT to W, WU, L, LU
    row (λ w. is_operation (0x60 ∷ 0x61 ∷ []) w && is_among (0 ∷ 1 ∷ 2 ∷ 3 ∷ []) (rs2 w)
    && rounds w) to_integer ∷
    -- FMV.X, FCLASS
    row (λ w. is_operation (0x70 ∷ 0x71 ∷ []) w && rs2 w == 0
    && is_among (0 ∷ 1 ∷ []) (funct3 w)) to_integer ∷
    -- FCVT from W, WU, L, LU
    row (λ w. is_operation (0x68 ∷ 0x69 ∷ []) w && is_among (0 ∷ 1 ∷ 2 ∷ 3 ∷ []) (rs2 w)
    && rounds w) from_integer ∷
    -- FMV from X
    row (λ w. is_operation (0x78 ∷ 0x79 ∷ []) w && rs2 w == 0 && funct3 w == 0) from_integer ∷ []

-- the whole table
unfoldable pub float_rows : List Row
float_rows = memory_rows ++ fused_rows ++ operation_rows

-- the meaning of the first of the rows that holds of a word
abbrev pub first_meaning : List Row → ℕ → Option Insn
first_meaning [] w = None
first_meaning (r ∷ rs) w = if r.holds w then Some (r.meaning w) else first_meaning rs w

-- the instruction of the F and D extensions that a word is, if a row holds of it
unfoldable pub float_instruction : ℕ → Option Insn
float_instruction w = first_meaning float_rows w
