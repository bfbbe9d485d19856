-- The instruction table of RV64IMA with Zicsr and Zifencei: a line for each row of the standard's
-- listings (RISC-V Unprivileged ISA 20240411, "RV32/64G Instruction Set Listings").
use Rattle.std.specs.Prelude.{ℕ, Bool, true, false, ◌==◌, if◌then◌else◌, List, [], ◌∷◌, ◌++◌}
use Rattle.std.specs.Prelude.{Option, Some, None}
use Rattle.std.specs.List.{list_all}
use Rattle.rv_decode.specs.Fields.{field, rd, rs1, rs2, acquire, release, csr, shift_amount}
use Rattle.rv_decode.specs.Fields.{word_shift_amount, i_immediate, s_immediate, b_offset, j_offset}
use Rattle.rv_decode.specs.Fields.{u_immediate}
use Rattle.rv_decode.specs.declared.instructions.Insn.{Insn}
use Rattle.rv_decode.specs.declared.instructions.Insn.TheVariants.{Lui, Auipc, Jal, Jalr, Branch}
use Rattle.rv_decode.specs.declared.instructions.Insn.TheVariants.{Load, Store, Imm, ImmW, Reg}
use Rattle.rv_decode.specs.declared.instructions.Insn.TheVariants.{RegW, Atomic, Fence, FenceI}
use Rattle.rv_decode.specs.declared.instructions.Insn.TheVariants.{Ecall, Ebreak, Csr}
use Rattle.rv_decode.specs.declared.instructions.BranchKind.{BranchKind}
use Rattle.rv_decode.specs.declared.instructions.BranchKind.TheVariants.{Beq, Bne, Blt, Bge, Bltu}
use Rattle.rv_decode.specs.declared.instructions.BranchKind.TheVariants.{Bgeu}
use Rattle.rv_decode.specs.declared.instructions.LoadKind.{LoadKind}
use Rattle.rv_decode.specs.declared.instructions.LoadKind.TheVariants.{Lb, Lh, Lw, Ld, Lbu, Lhu}
use Rattle.rv_decode.specs.declared.instructions.LoadKind.TheVariants.{Lwu}
use Rattle.rv_decode.specs.declared.instructions.StoreKind.{StoreKind}
use Rattle.rv_decode.specs.declared.instructions.StoreKind.TheVariants.{Sb, Sh, Sw, Sd}
use Rattle.rv_decode.specs.declared.instructions.ImmKind.{ImmKind}
use Rattle.rv_decode.specs.declared.instructions.ImmKind.TheVariants.{Addi, Slti, Sltiu, Xori, Ori}
use Rattle.rv_decode.specs.declared.instructions.ImmKind.TheVariants.{Andi, Slli, Srli, Srai}
use Rattle.rv_decode.specs.declared.instructions.ImmWKind.{ImmWKind}
use Rattle.rv_decode.specs.declared.instructions.ImmWKind.TheVariants.{Addiw, Slliw, Srliw, Sraiw}
use Rattle.rv_decode.specs.declared.instructions.RegKind.{RegKind}
use Rattle.rv_decode.specs.declared.instructions.RegKind.TheVariants.{Add, Sll, Slt, Sltu, Xor, Srl}
use Rattle.rv_decode.specs.declared.instructions.RegKind.TheVariants.{Or, And, Sub, Sra, Mul, Mulh}
use Rattle.rv_decode.specs.declared.instructions.RegKind.TheVariants.{Mulhsu, Mulhu, Div, Divu, Rem}
use Rattle.rv_decode.specs.declared.instructions.RegKind.TheVariants.{Remu}
use Rattle.rv_decode.specs.declared.instructions.RegWKind.{RegWKind}
use Rattle.rv_decode.specs.declared.instructions.RegWKind.TheVariants.{Addw, Sllw, Srlw, Subw, Sraw}
use Rattle.rv_decode.specs.declared.instructions.RegWKind.TheVariants.{Mulw, Divw, Divuw, Remw}
use Rattle.rv_decode.specs.declared.instructions.RegWKind.TheVariants.{Remuw}
use Rattle.rv_decode.specs.declared.instructions.AtomicKind.{AtomicKind}
use Rattle.rv_decode.specs.declared.instructions.AtomicKind.TheVariants as atomic_kind
use Rattle.rv_decode.specs.declared.instructions.CsrKind.{CsrKind}
use Rattle.rv_decode.specs.declared.instructions.CsrKind.TheVariants.{Csrrw, Csrrs, Csrrc, Csrrwi}
use Rattle.rv_decode.specs.declared.instructions.CsrKind.TheVariants.{Csrrsi, Csrrci}

-- ---- rows

-- a word's bits `high` to `low` are `value`
pub record Condition : Type 0 where
  pub high : ℕ
  pub low : ℕ
  pub value : ℕ

-- a row of the table: what a word must meet, and the instruction that the word then is
pub record Row : Type 0 where
  pub conditions : List Condition
  pub meaning : ℕ → Insn

-- whether a word meets a condition
abbrev pub meets : ℕ → Condition → Bool
meets w c = field w c.high c.low == c.value

-- whether a row holds of a word: the word meets each condition
abbrev pub holds : Row → ℕ → Bool
holds r w = list_all (meets w) r.conditions

-- the meaning of the first row that holds of a word
abbrev pub first_meaning : List Row → ℕ → Option Insn
first_meaning [] w = None
first_meaning (r ∷ rs) w = if holds r w then Some (r.meaning w) else first_meaning rs w

-- the conditions by the names of their fields
abbrev pub opcode_is : ℕ → Condition
opcode_is n = record { high = 6; low = 0; value = n }

abbrev pub rd_is : ℕ → Condition
rd_is n = record { high = 11; low = 7; value = n }

abbrev pub funct3_is : ℕ → Condition
funct3_is n = record { high = 14; low = 12; value = n }

abbrev pub rs1_is : ℕ → Condition
rs1_is n = record { high = 19; low = 15; value = n }

abbrev pub rs2_is : ℕ → Condition
rs2_is n = record { high = 24; low = 20; value = n }

abbrev pub funct7_is : ℕ → Condition
funct7_is n = record { high = 31; low = 25; value = n }

abbrev pub funct6_is : ℕ → Condition
funct6_is n = record { high = 31; low = 26; value = n }

abbrev pub funct5_is : ℕ → Condition
funct5_is n = record { high = 31; low = 27; value = n }

abbrev pub funct12_is : ℕ → Condition
funct12_is n = record { high = 31; low = 20; value = n }

-- ---- opcode 37 and 17: LUI and AUIPC (section 2.4.1)

unfoldable pub upper_rows : List Row
upper_rows =
    record { conditions = opcode_is 0x37 ∷ []; meaning = λ w. Lui (rd w) (u_immediate w) } ∷
    record { conditions = opcode_is 0x17 ∷ []; meaning = λ w. Auipc (rd w) (u_immediate w) } ∷ []

-- ---- opcode 6F and 67: JAL and JALR (section 2.5.1)

unfoldable pub jump_rows : List Row
jump_rows =
    record { conditions = opcode_is 0x6F ∷ []; meaning = λ w. Jal (rd w) (j_offset w) } ∷
    record {
      conditions = opcode_is 0x67 ∷ funct3_is 0 ∷ [];
      meaning = λ w. Jalr (rd w) (rs1 w) (i_immediate w);
    }
    ∷ []

-- ---- opcode 63: BRANCH (section 2.5.2), by funct3

abbrev pub branch : BranchKind → ℕ → Insn
branch kind w = Branch kind (rs1 w) (rs2 w) (b_offset w)

abbrev pub branch_row : ℕ → BranchKind → Row
branch_row f3 kind =
    record { conditions = opcode_is 0x63 ∷ funct3_is f3 ∷ []; meaning = branch kind }

unfoldable pub branch_rows : List Row
branch_rows =
    branch_row 0 Beq ∷
    branch_row 1 Bne ∷
    branch_row 4 Blt ∷
    branch_row 5 Bge ∷
    branch_row 6 Bltu ∷
    branch_row 7 Bgeu ∷ []

-- ---- opcode 03: LOAD (sections 2.6 and 4.3), by funct3

abbrev pub load : LoadKind → ℕ → Insn
load kind w = Load kind (rd w) (rs1 w) (i_immediate w)

abbrev pub load_row : ℕ → LoadKind → Row
load_row f3 kind = record { conditions = opcode_is 0x03 ∷ funct3_is f3 ∷ []; meaning = load kind }

unfoldable pub load_rows : List Row
load_rows =
    load_row 0 Lb ∷
    load_row 1 Lh ∷
    load_row 2 Lw ∷
    load_row 3 Ld ∷
    load_row 4 Lbu ∷
    load_row 5 Lhu ∷
    load_row 6 Lwu ∷ []

-- ---- opcode 23: STORE (sections 2.6 and 4.3), by funct3

abbrev pub store : StoreKind → ℕ → Insn
store kind w = Store kind (rs1 w) (rs2 w) (s_immediate w)

abbrev pub store_row : ℕ → StoreKind → Row
store_row f3 kind = record { conditions = opcode_is 0x23 ∷ funct3_is f3 ∷ []; meaning = store kind }

unfoldable pub store_rows : List Row
store_rows =
    store_row 0 Sb ∷
    store_row 1 Sh ∷
    store_row 2 Sw ∷
    store_row 3 Sd ∷ []

-- ---- opcode 13: OP-IMM (sections 2.4.1 and 4.2.1), by funct3; a shift by funct6 too

abbrev pub imm : ImmKind → ℕ → Insn
imm kind w = Imm kind (rd w) (rs1 w) (i_immediate w)

abbrev pub shift : ImmKind → ℕ → Insn
shift kind w = Imm kind (rd w) (rs1 w) (shift_amount w)

abbrev pub imm_row : ℕ → ImmKind → Row
imm_row f3 kind = record { conditions = opcode_is 0x13 ∷ funct3_is f3 ∷ []; meaning = imm kind }

abbrev pub shift_row : ℕ → ℕ → ImmKind → Row
shift_row f3 f6 kind =
    record { conditions = opcode_is 0x13 ∷ funct3_is f3 ∷ funct6_is f6 ∷ []; meaning = shift kind }

unfoldable pub imm_rows : List Row
imm_rows =
    imm_row 0 Addi ∷
    imm_row 2 Slti ∷
    imm_row 3 Sltiu ∷
    imm_row 4 Xori ∷
    imm_row 6 Ori ∷
    imm_row 7 Andi ∷
    shift_row 1 0b000000 Slli ∷
    shift_row 5 0b000000 Srli ∷
    shift_row 5 0b010000 Srai ∷ []

-- ---- opcode 1B: OP-IMM-32 (section 4.2.1), by funct3; a shift by funct7 too

abbrev pub imm_w : ImmWKind → ℕ → Insn
imm_w kind w = ImmW kind (rd w) (rs1 w) (i_immediate w)

abbrev pub shift_w : ImmWKind → ℕ → Insn
shift_w kind w = ImmW kind (rd w) (rs1 w) (word_shift_amount w)

abbrev pub imm_w_row : ℕ → ImmWKind → Row
imm_w_row f3 kind = record { conditions = opcode_is 0x1B ∷ funct3_is f3 ∷ []; meaning = imm_w kind }

abbrev pub shift_w_row : ℕ → ℕ → ImmWKind → Row
shift_w_row f3 f7 kind =
    record {
      conditions = opcode_is 0x1B ∷ funct3_is f3 ∷ funct7_is f7 ∷ [];
      meaning = shift_w kind;
    }

unfoldable pub imm_w_rows : List Row
imm_w_rows =
    imm_w_row 0 Addiw ∷
    shift_w_row 1 0x00 Slliw ∷
    shift_w_row 5 0x00 Srliw ∷
    shift_w_row 5 0x20 Sraiw ∷ []

-- ---- opcode 33: OP (section 2.4.2, and chapter 13 for the rows of "M"), by funct7 and funct3

abbrev pub reg : RegKind → ℕ → Insn
reg kind w = Reg kind (rd w) (rs1 w) (rs2 w)

abbrev pub reg_row : ℕ → ℕ → RegKind → Row
reg_row f7 f3 kind =
    record { conditions = opcode_is 0x33 ∷ funct7_is f7 ∷ funct3_is f3 ∷ []; meaning = reg kind }

unfoldable pub reg_rows : List Row
reg_rows =
    reg_row 0x00 0 Add ∷
    reg_row 0x00 1 Sll ∷
    reg_row 0x00 2 Slt ∷
    reg_row 0x00 3 Sltu ∷
    reg_row 0x00 4 Xor ∷
    reg_row 0x00 5 Srl ∷
    reg_row 0x00 6 Or ∷
    reg_row 0x00 7 And ∷
    reg_row 0x20 0 Sub ∷
    reg_row 0x20 5 Sra ∷
    reg_row 0x01 0 Mul ∷
    reg_row 0x01 1 Mulh ∷
    reg_row 0x01 2 Mulhsu ∷
    reg_row 0x01 3 Mulhu ∷
    reg_row 0x01 4 Div ∷
    reg_row 0x01 5 Divu ∷
    reg_row 0x01 6 Rem ∷
    reg_row 0x01 7 Remu ∷ []

-- ---- opcode 3B: OP-32 (section 4.2.2, and chapter 13 for the rows of "M"), by funct7 and funct3

abbrev pub reg_w : RegWKind → ℕ → Insn
reg_w kind w = RegW kind (rd w) (rs1 w) (rs2 w)

abbrev pub reg_w_row : ℕ → ℕ → RegWKind → Row
reg_w_row f7 f3 kind =
    record { conditions = opcode_is 0x3B ∷ funct7_is f7 ∷ funct3_is f3 ∷ []; meaning = reg_w kind }

unfoldable pub reg_w_rows : List Row
reg_w_rows =
    reg_w_row 0x00 0 Addw ∷
    reg_w_row 0x00 1 Sllw ∷
    reg_w_row 0x00 5 Srlw ∷
    reg_w_row 0x20 0 Subw ∷
    reg_w_row 0x20 5 Sraw ∷
    reg_w_row 0x01 0 Mulw ∷
    reg_w_row 0x01 4 Divw ∷
    reg_w_row 0x01 5 Divuw ∷
    reg_w_row 0x01 6 Remw ∷
    reg_w_row 0x01 7 Remuw ∷ []

-- ---- opcode 2F: AMO (chapter 14), by funct3, which is 2 for a word and 3 for a doubleword, and
-- funct5; bits 26 and 25 are the ordering bits

abbrev pub atomic : Bool → AtomicKind → ℕ → Insn
atomic wide kind w = Atomic kind wide (acquire w) (release w) (rd w) (rs1 w) (rs2 w)

-- LR has rs2 = 0
abbrev pub lr_row : ℕ → Bool → Row
lr_row f3 wide =
    record {
      conditions = opcode_is 0x2F ∷ funct3_is f3 ∷ funct5_is 0b00010 ∷ rs2_is 0 ∷ [];
      meaning = atomic wide atomic_kind.Lr;
    }

abbrev pub atomic_row : ℕ → Bool → ℕ → AtomicKind → Row
atomic_row f3 wide f5 kind =
    record {
      conditions = opcode_is 0x2F ∷ funct3_is f3 ∷ funct5_is f5 ∷ [];
      meaning = atomic wide kind;
    }

-- LR.W to AMOMAXU.W at funct3 = 2, LR.D to AMOMAXU.D at funct3 = 3
unfoldable pub atomic_rows_of : ℕ → Bool → List Row
atomic_rows_of f3 wide =
    lr_row f3 wide ∷
    atomic_row f3 wide 0b00011 atomic_kind.Sc ∷
    atomic_row f3 wide 0b00001 atomic_kind.Swap ∷
    atomic_row f3 wide 0b00000 atomic_kind.Add ∷
    atomic_row f3 wide 0b00100 atomic_kind.Xor ∷
    atomic_row f3 wide 0b01100 atomic_kind.And ∷
    atomic_row f3 wide 0b01000 atomic_kind.Or ∷
    atomic_row f3 wide 0b10000 atomic_kind.Min ∷
    atomic_row f3 wide 0b10100 atomic_kind.Max ∷
    atomic_row f3 wide 0b11000 atomic_kind.Minu ∷
    atomic_row f3 wide 0b11100 atomic_kind.Maxu ∷ []

unfoldable pub atomic_rows : List Row
unfolding atomic_rows_of
atomic_rows = atomic_rows_of 2 false ++ atomic_rows_of 3 true

-- ---- opcode 0F: MISC-MEM, FENCE (section 2.7) and FENCE.I (chapter 6), whose other fields the
-- standard reserves and tells implementations to ignore

unfoldable pub fence_rows : List Row
fence_rows =
    record { conditions = opcode_is 0x0F ∷ funct3_is 0 ∷ []; meaning = λ w. Fence } ∷
    record { conditions = opcode_is 0x0F ∷ funct3_is 1 ∷ []; meaning = λ w. FenceI } ∷ []

-- ---- opcode 73: SYSTEM, ECALL and EBREAK (section 2.8), each one word, and the operations on
-- control and status registers (section 7.1), by funct3

abbrev pub environment_row : ℕ → Insn → Row
environment_row f12 instruction_meant =
    record {
      conditions = opcode_is 0x73 ∷ funct3_is 0 ∷ rd_is 0 ∷ rs1_is 0 ∷ funct12_is f12 ∷ [];
      meaning = λ w. instruction_meant;
    }

abbrev pub csr_access : CsrKind → ℕ → Insn
csr_access kind w = Csr kind (rd w) (rs1 w) (csr w)

abbrev pub csr_row : ℕ → CsrKind → Row
csr_row f3 kind =
    record { conditions = opcode_is 0x73 ∷ funct3_is f3 ∷ []; meaning = csr_access kind }

unfoldable pub system_rows : List Row
system_rows =
    environment_row 0 Ecall ∷
    environment_row 1 Ebreak ∷
    csr_row 1 Csrrw ∷
    csr_row 2 Csrrs ∷
    csr_row 3 Csrrc ∷
    csr_row 5 Csrrwi ∷
    csr_row 6 Csrrsi ∷
    csr_row 7 Csrrci ∷ []

-- ---- the table

unfoldable pub rows : List Row
rows =
    upper_rows ++ jump_rows ++ branch_rows ++ load_rows ++ store_rows ++ imm_rows ++ imm_w_rows
    ++ reg_rows ++ reg_w_rows ++ atomic_rows ++ fence_rows ++ system_rows

-- The instruction that a word is: the meaning of the row that holds of it, and none if none does.
unfoldable pub instruction : ℕ → Option Insn
instruction w = first_meaning rows w
