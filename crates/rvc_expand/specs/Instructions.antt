-- The 32-bit instructions that the compressed forms stand for, with their opcode, funct3 and funct7
-- (RISC-V Unprivileged ISA 20240411, "RV32/64G Instruction Set Listings").
use Rattle.std.specs.Prelude.{ℕ, ◌+◌}
use Rattle.rvc_expand.specs.Formats.{r_type, i_type, s_type, b_type, u_type, j_type}

abbrev pub addi : (rd rs1 immediate : ℕ) → ℕ
addi rd rs1 immediate = i_type 0x13 0 rd rs1 immediate

abbrev pub andi : (rd rs1 immediate : ℕ) → ℕ
andi rd rs1 immediate = i_type 0x13 7 rd rs1 immediate

-- a shift's immediate is its amount, of six bits; bit 10 of the immediate tells SRAI from SRLI
abbrev pub slli : (rd rs1 amount : ℕ) → ℕ
slli rd rs1 amount = i_type 0x13 1 rd rs1 amount

abbrev pub srli : (rd rs1 amount : ℕ) → ℕ
srli rd rs1 amount = i_type 0x13 5 rd rs1 amount

abbrev pub srai : (rd rs1 amount : ℕ) → ℕ
srai rd rs1 amount = i_type 0x13 5 rd rs1 (amount + 0x400)

abbrev pub addiw : (rd rs1 immediate : ℕ) → ℕ
addiw rd rs1 immediate = i_type 0x1b 0 rd rs1 immediate

abbrev pub lui : (rd immediate : ℕ) → ℕ
lui rd immediate = u_type 0x37 rd immediate

-- a load's address is rs1 plus the offset
abbrev pub lw : (rd rs1 offset : ℕ) → ℕ
lw rd rs1 offset = i_type 0x03 2 rd rs1 offset

abbrev pub ld : (rd rs1 offset : ℕ) → ℕ
ld rd rs1 offset = i_type 0x03 3 rd rs1 offset

-- a store writes rs2 at rs1 plus the offset
abbrev pub sw : (rs2 rs1 offset : ℕ) → ℕ
sw rs2 rs1 offset = s_type 0x23 2 rs1 rs2 offset

abbrev pub sd : (rs2 rs1 offset : ℕ) → ℕ
sd rs2 rs1 offset = s_type 0x23 3 rs1 rs2 offset

abbrev pub add : (rd rs1 rs2 : ℕ) → ℕ
add rd rs1 rs2 = r_type 0x33 0 0x00 rd rs1 rs2

abbrev pub sub : (rd rs1 rs2 : ℕ) → ℕ
sub rd rs1 rs2 = r_type 0x33 0 0x20 rd rs1 rs2

abbrev pub xor : (rd rs1 rs2 : ℕ) → ℕ
xor rd rs1 rs2 = r_type 0x33 4 0x00 rd rs1 rs2

abbrev pub or : (rd rs1 rs2 : ℕ) → ℕ
or rd rs1 rs2 = r_type 0x33 6 0x00 rd rs1 rs2

abbrev pub and : (rd rs1 rs2 : ℕ) → ℕ
and rd rs1 rs2 = r_type 0x33 7 0x00 rd rs1 rs2

abbrev pub addw : (rd rs1 rs2 : ℕ) → ℕ
addw rd rs1 rs2 = r_type 0x3b 0 0x00 rd rs1 rs2

abbrev pub subw : (rd rs1 rs2 : ℕ) → ℕ
subw rd rs1 rs2 = r_type 0x3b 0 0x20 rd rs1 rs2

abbrev pub jal : (rd offset : ℕ) → ℕ
jal rd offset = j_type 0x6f rd offset

abbrev pub jalr : (rd rs1 offset : ℕ) → ℕ
jalr rd rs1 offset = i_type 0x67 0 rd rs1 offset

abbrev pub beq : (rs1 rs2 offset : ℕ) → ℕ
beq rs1 rs2 offset = b_type 0x63 0 rs1 rs2 offset

abbrev pub bne : (rs1 rs2 offset : ℕ) → ℕ
bne rs1 rs2 offset = b_type 0x63 1 rs1 rs2 offset

abbrev pub ebreak : ℕ
ebreak = i_type 0x73 0 0 0 1
