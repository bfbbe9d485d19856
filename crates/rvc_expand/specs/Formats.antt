-- The six formats of a 32-bit instruction (RISC-V Unprivileged ISA 20240411, "Base Instruction
-- Formats" and "Immediate Encoding Variants"): each is the sum of its fields, each times the power
-- of two of its lowest bit. `immediate` is in two's complement, of the width that the format has.
use Rattle.std.specs.Prelude.{ℕ, ◌+◌, ◌*◌, ◌^◌}
use Rattle.rvc_expand.specs.Bits.{field}

-- R-type: funct7, rs2, rs1, funct3, rd, opcode
unfoldable pub r_type : (opcode funct3 funct7 rd rs1 rs2 : ℕ) → ℕ
r_type opcode funct3 funct7 rd rs1 rs2 =
    opcode + rd * 2 ^ 7 + funct3 * 2 ^ 12 + rs1 * 2 ^ 15 + rs2 * 2 ^ 20 + funct7 * 2 ^ 25

-- I-type: imm[11:0], rs1, funct3, rd, opcode
unfoldable pub i_type : (opcode funct3 rd rs1 immediate : ℕ) → ℕ
i_type opcode funct3 rd rs1 immediate =
    opcode + rd * 2 ^ 7 + funct3 * 2 ^ 12 + rs1 * 2 ^ 15 + immediate * 2 ^ 20

-- S-type: imm[11:5], rs2, rs1, funct3, imm[4:0], opcode
unfoldable pub s_type : (opcode funct3 rs1 rs2 immediate : ℕ) → ℕ
s_type opcode funct3 rs1 rs2 immediate =
    opcode + field immediate 4 0 * 2 ^ 7 + funct3 * 2 ^ 12 + rs1 * 2 ^ 15 + rs2 * 2 ^ 20
    + field immediate 11 5 * 2 ^ 25

-- B-type: imm[12], imm[10:5], rs2, rs1, funct3, imm[4:1], imm[11], opcode
unfoldable pub b_type : (opcode funct3 rs1 rs2 immediate : ℕ) → ℕ
b_type opcode funct3 rs1 rs2 immediate =
    opcode + field immediate 11 11 * 2 ^ 7 + field immediate 4 1 * 2 ^ 8 + funct3 * 2 ^ 12
    + rs1 * 2 ^ 15 + rs2 * 2 ^ 20 + field immediate 10 5 * 2 ^ 25 + field immediate 12 12 * 2 ^ 31

-- U-type: imm[31:12], rd, opcode
unfoldable pub u_type : (opcode rd immediate : ℕ) → ℕ
u_type opcode rd immediate = opcode + rd * 2 ^ 7 + field immediate 31 12 * 2 ^ 12

-- J-type: imm[20], imm[10:1], imm[11], imm[19:12], rd, opcode
unfoldable pub j_type : (opcode rd immediate : ℕ) → ℕ
j_type opcode rd immediate =
    opcode + rd * 2 ^ 7 + field immediate 19 12 * 2 ^ 12 + field immediate 11 11 * 2 ^ 20
    + field immediate 10 1 * 2 ^ 21 + field immediate 20 20 * 2 ^ 31
