-- The parts of a 16-bit instruction (RISC-V Unprivileged ISA 20240411, chapter "C" Extension for
-- Compressed Instructions, "Compressed Instruction Formats" and the listing of each form).
use Rattle.std.specs.Prelude.{ℕ, ◌+◌, Bool, not, ◌&&◌, ◌==◌, [], ◌∷◌}
use Rattle.rvc_expand.specs.Bits.{field, placed, sign_extended}

-- the quadrant (the opcode field op) and funct3: bits 1 to 0 and 15 to 13
abbrev pub is_at : ℕ → ℕ → ℕ → Bool
is_at half quadrant funct3 = field half 1 0 == quadrant && field half 15 13 == funct3

abbrev pub is_nonzero : ℕ → Bool
is_nonzero number = not (number == 0)

-- ---- registers

-- the register in bits 11 to 7: rd, rs1 or both
abbrev pub first_register : ℕ → ℕ
first_register half = field half 11 7

-- the register in bits 6 to 2: rs2
abbrev pub second_register : ℕ → ℕ
second_register half = field half 6 2

-- the popular register, x8 to x15, in bits 9 to 7: rs1', rd' or both
abbrev pub first_popular : ℕ → ℕ
first_popular half = 8 + field half 9 7

-- the popular register, x8 to x15, in bits 4 to 2: rd' or rs2'
abbrev pub second_popular : ℕ → ℕ
second_popular half = 8 + field half 4 2

-- ---- immediates: each item is (high, low, at)

-- C.SLLI, C.SRLI, C.SRAI: shamt[5:0]
unfoldable pub shift_amount : ℕ → ℕ
shift_amount half = placed half ((12, 12, 5) ∷ (6, 2, 0) ∷ [])

-- C.ADDI, C.ADDIW, C.LI, C.ANDI: imm[5:0], signed
unfoldable pub small_immediate : ℕ → ℕ
small_immediate half = sign_extended 6 12 (placed half ((12, 12, 5) ∷ (6, 2, 0) ∷ []))

-- C.LUI: nzimm[17:12], signed
unfoldable pub lui_immediate : ℕ → ℕ
lui_immediate half = sign_extended 18 32 (placed half ((12, 12, 17) ∷ (6, 2, 12) ∷ []))

-- C.ADDI16SP: nzimm[9:4], signed
unfoldable pub addi16sp_immediate : ℕ → ℕ
addi16sp_immediate half =
    sign_extended 10 12
    (placed half ((12, 12, 9) ∷ (6, 6, 4) ∷ (5, 5, 6) ∷ (4, 3, 7) ∷ (2, 2, 5) ∷ []))

-- C.ADDI4SPN: nzuimm[9:2]
unfoldable pub addi4spn_immediate : ℕ → ℕ
addi4spn_immediate half = placed half ((12, 11, 4) ∷ (10, 7, 6) ∷ (6, 6, 2) ∷ (5, 5, 3) ∷ [])

-- C.LW, C.SW: uimm[6:2]
unfoldable pub word_offset : ℕ → ℕ
word_offset half = placed half ((12, 10, 3) ∷ (6, 6, 2) ∷ (5, 5, 6) ∷ [])

-- C.LD, C.SD: uimm[7:3]
unfoldable pub double_offset : ℕ → ℕ
double_offset half = placed half ((12, 10, 3) ∷ (6, 5, 6) ∷ [])

-- C.LWSP: uimm[7:2]
unfoldable pub lwsp_offset : ℕ → ℕ
lwsp_offset half = placed half ((12, 12, 5) ∷ (6, 4, 2) ∷ (3, 2, 6) ∷ [])

-- C.LDSP: uimm[8:3]
unfoldable pub ldsp_offset : ℕ → ℕ
ldsp_offset half = placed half ((12, 12, 5) ∷ (6, 5, 3) ∷ (4, 2, 6) ∷ [])

-- C.SWSP: uimm[7:2]
unfoldable pub swsp_offset : ℕ → ℕ
swsp_offset half = placed half ((12, 9, 2) ∷ (8, 7, 6) ∷ [])

-- C.SDSP: uimm[8:3]
unfoldable pub sdsp_offset : ℕ → ℕ
sdsp_offset half = placed half ((12, 10, 3) ∷ (9, 7, 6) ∷ [])

-- C.J: imm[11:1], signed
unfoldable pub jump_offset : ℕ → ℕ
jump_offset half =
    sign_extended 12 21
    (placed half ((12, 12, 11) ∷ (11, 11, 4) ∷ (10, 9, 8) ∷ (8, 8, 10) ∷ (7, 7, 6) ∷ (6, 6, 7)
    ∷ (5, 3, 1) ∷ (2, 2, 5) ∷ []))

-- C.BEQZ, C.BNEZ: imm[8:1], signed
unfoldable pub branch_offset : ℕ → ℕ
branch_offset half =
    sign_extended 9 13
    (placed half ((12, 12, 8) ∷ (11, 10, 3) ∷ (6, 5, 6) ∷ (4, 3, 1) ∷ (2, 2, 5) ∷ []))
