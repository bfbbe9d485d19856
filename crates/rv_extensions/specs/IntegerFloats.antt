-- Floats in integer registers (RISC-V Unprivileged ISA 20240411, chapter "Zfinx, Zdinx, Zhinx,
-- Zhinxmin"): the encodings of F, D and half precision, where a file names one of these extensions.
-- That each of the names opens F and D, and how vectors stand beside them, is this project's profile.
use Rattle.std.specs.Prelude.{ℕ, Bool, ◌&&◌, ◌||◌, List, [], ◌∷◌, ◌++◌, Option}
use Rattle.std.specs.Option.{option_or}
use Rattle.elf_image.specs.declared.extensions.Extensions.{Extensions}
use Rattle.rv_decode.specs.declared.instructions.Insn.{Insn}
use Rattle.rv_extensions.specs.Rows.{Row, row, Condition, bits, opcode_is, funct3_in, funct7_in}
use Rattle.rv_extensions.specs.Rows.{rs2_in, first_meaning}
use Rattle.rv_extensions.specs.Registers.{to_rd, from_rs1, unary, binary, fused}
use Rattle.rv_extensions.specs.Table.{rounds, extension_instruction}

-- ---- what a file names

-- half precision, its conversions, and vectors
abbrev pub has_halves : Extensions → Bool
has_halves e = e.zfinx && e.zhinx

abbrev pub has_conversions : Extensions → Bool
has_conversions e = e.zfinx && (e.zhinx || e.zhinxmin)

abbrev pub has_vectors : Extensions → Bool
has_vectors e = e.zfinx && e.vector

-- ---- opcode 43, 47, 4B and 4F: fused multiplications and additions, by their format

abbrev pub fused_row : (Extensions → Bool) → ℕ → List ℕ → Row
fused_row named code formats =
    row named (opcode_is code ∷ bits 26 25 formats ∷ rounds ∷ []) fused

unfoldable pub integer_fused_rows : List Row
integer_fused_rows =
    fused_row (λ e. e.zfinx) 0x43 (0 ∷ 1 ∷ []) ∷ fused_row has_halves 0x43 (2 ∷ []) ∷
    fused_row (λ e. e.zfinx) 0x47 (0 ∷ 1 ∷ []) ∷ fused_row has_halves 0x47 (2 ∷ []) ∷
    fused_row (λ e. e.zfinx) 0x4B (0 ∷ 1 ∷ []) ∷ fused_row has_halves 0x4B (2 ∷ []) ∷
    fused_row (λ e. e.zfinx) 0x4F (0 ∷ 1 ∷ []) ∷ fused_row has_halves 0x4F (2 ∷ []) ∷ []

-- ---- opcode 53: the other operations, by funct7

abbrev pub operation_row : (Extensions → Bool) → List ℕ → List Condition → (ℕ → Insn) → Row
operation_row named f7 others meaning = row named (opcode_is 0x53 ∷ funct7_in f7 ∷ others) meaning

abbrev pub to_or_from : List ℕ
to_or_from = 0 ∷ 1 ∷ 2 ∷ 3 ∷ []

-- single and double precision
unfoldable pub integer_operation_rows : List Row
integer_operation_rows =
    -- FADD, FSUB, FMUL, FDIV
    operation_row (λ e. e.zfinx) (0x00 ∷ 0x01 ∷ 0x04 ∷ 0x05 ∷ 0x08 ∷ 0x09 ∷ 0x0C ∷ 0x0D ∷ [])
    (rounds ∷ []) binary ∷
    -- FSQRT
    operation_row (λ e. e.zfinx) (0x2C ∷ 0x2D ∷ []) (rs2_in (0 ∷ []) ∷ rounds ∷ []) unary ∷
    -- FCVT.S.D, FCVT.D.S
    operation_row (λ e. e.zfinx) (0x20 ∷ []) (rs2_in (1 ∷ []) ∷ rounds ∷ []) unary ∷
    operation_row (λ e. e.zfinx) (0x21 ∷ []) (rs2_in (0 ∷ []) ∷ rounds ∷ []) unary ∷
    -- FSGNJ, FSGNJN, FSGNJX
    operation_row (λ e. e.zfinx) (0x10 ∷ 0x11 ∷ []) (funct3_in (0 ∷ 1 ∷ 2 ∷ []) ∷ []) binary ∷
    -- FMIN, FMAX
    operation_row (λ e. e.zfinx) (0x14 ∷ 0x15 ∷ []) (funct3_in (0 ∷ 1 ∷ []) ∷ []) binary ∷
    -- FLE, FLT, FEQ
    operation_row (λ e. e.zfinx) (0x50 ∷ 0x51 ∷ []) (funct3_in (0 ∷ 1 ∷ 2 ∷ []) ∷ []) binary ∷
    -- FCVT to W, WU, L, LU, and back
    operation_row (λ e. e.zfinx) (0x60 ∷ 0x61 ∷ 0x68 ∷ 0x69 ∷ [])
    (rs2_in to_or_from ∷ rounds ∷ []) unary ∷
    -- FCLASS
    operation_row (λ e. e.zfinx) (0x70 ∷ 0x71 ∷ [])
    (rs2_in (0 ∷ []) ∷ funct3_in (1 ∷ []) ∷ []) unary ∷ []

-- half precision, which has the format 10
unfoldable pub integer_half_rows : List Row
integer_half_rows =
    -- FADD.H, FSUB.H, FMUL.H, FDIV.H
    operation_row has_halves (0x02 ∷ 0x06 ∷ 0x0A ∷ 0x0E ∷ []) (rounds ∷ []) binary ∷
    -- FSQRT.H
    operation_row has_halves (0x2E ∷ []) (rs2_in (0 ∷ []) ∷ rounds ∷ []) unary ∷
    -- FSGNJ.H, FSGNJN.H, FSGNJX.H
    operation_row has_halves (0x12 ∷ []) (funct3_in (0 ∷ 1 ∷ 2 ∷ []) ∷ []) binary ∷
    -- FMIN.H, FMAX.H
    operation_row has_halves (0x16 ∷ []) (funct3_in (0 ∷ 1 ∷ []) ∷ []) binary ∷
    -- FLE.H, FLT.H, FEQ.H
    operation_row has_halves (0x52 ∷ []) (funct3_in (0 ∷ 1 ∷ 2 ∷ []) ∷ []) binary ∷
    -- FCVT.W.H, FCVT.WU.H, FCVT.L.H, FCVT.LU.H, and back
    operation_row has_halves (0x62 ∷ 0x6A ∷ []) (rs2_in to_or_from ∷ rounds ∷ []) unary ∷
    -- FCLASS.H
    operation_row has_halves (0x72 ∷ []) (rs2_in (0 ∷ []) ∷ funct3_in (1 ∷ []) ∷ []) unary ∷
    -- FCVT.S.H, FCVT.D.H; FCVT.H.S, FCVT.H.D
    operation_row has_conversions (0x20 ∷ 0x21 ∷ []) (rs2_in (2 ∷ []) ∷ rounds ∷ []) unary ∷
    operation_row has_conversions (0x22 ∷ []) (rs2_in (0 ∷ 1 ∷ []) ∷ rounds ∷ []) unary ∷ []

-- ---- opcode 57: the scalars of vector operations of floats

unfoldable pub integer_scalar_rows : List Row
integer_scalar_rows =
    -- OPFVF
    row has_vectors (opcode_is 0x57 ∷ funct3_in (5 ∷ []) ∷ []) from_rs1 ∷
    -- VFMV.F.S
    row has_vectors
    (opcode_is 0x57 ∷ funct3_in (1 ∷ []) ∷ bits 31 26 (0b010000 ∷ []) ∷ bits 19 15 (0 ∷ []) ∷ [])
    to_rd ∷ []

-- ---- the table

unfoldable pub integer_float_rows : List Row
integer_float_rows =
    integer_fused_rows ++ integer_operation_rows ++ integer_half_rows ++ integer_scalar_rows

-- the operation on floats in integer registers that a word is, if the file names these
unfoldable pub integer_float : Extensions → ℕ → Option Insn
integer_float e w = first_meaning e integer_float_rows w

-- the instruction that a word is by what the file names: such a float, or a row of the other table
abbrev pub named_instruction : Extensions → ℕ → Option Insn
named_instruction e w = option_or (integer_float e w) (extension_instruction e w)
