-- What each instruction between registers computes, a line a mnemonic, with its section of the
-- RISC-V Unprivileged ISA 20240411. x is the first operand; y is the second, or the immediate,
-- sign-extended to 64 bits.
use Rattle.std.specs.Prelude.{ℕ, ◌==◌, ◌<ℤ◌, nat_lt, nat_le, not, Bool, bit_and, bit_or, bit_xor}
use Rattle.std.specs.Prelude.{int_lt, int_le, pos}
use Rattle.std.specs.Int.{w32, w64, cast_signed}
use Rattle.rv_decode.specs.declared.instructions.ImmKind.{ImmKind}
use Rattle.rv_decode.specs.declared.instructions.ImmKind.TheVariants as imms
use Rattle.rv_decode.specs.declared.instructions.ImmWKind.{ImmWKind}
use Rattle.rv_decode.specs.declared.instructions.ImmWKind.TheVariants as imm_ws
use Rattle.rv_decode.specs.declared.instructions.RegKind.{RegKind}
use Rattle.rv_decode.specs.declared.instructions.RegKind.TheVariants as regs
use Rattle.rv_decode.specs.declared.instructions.RegWKind.{RegWKind}
use Rattle.rv_decode.specs.declared.instructions.RegWKind.TheVariants as reg_ws
use Rattle.rv_decode.specs.declared.instructions.BranchKind.{BranchKind}
use Rattle.rv_decode.specs.declared.instructions.BranchKind.TheVariants as branches
use Rattle.rv_operations.specs.Arithmetic.{low_word, sign_extended, sum, difference, product}
use Rattle.rv_operations.specs.Arithmetic.{shifted_left, shifted_right, shifted_right_signed}
use Rattle.rv_operations.specs.Arithmetic.{is_less, is_less_unsigned, high_half}
use Rattle.rv_operations.specs.Arithmetic.{high_half_unsigned, quotient, quotient_unsigned}
use Rattle.rv_operations.specs.Arithmetic.{remainder, remainder_unsigned}

-- a register and an immediate
unfoldable pub imm_result : ImmKind → ℕ → ℕ → ℕ
imm_result imms.Addi x y = sum w64 x y  -- 2.4.1
imm_result imms.Slti x y = is_less x y  -- 2.4.1
imm_result imms.Sltiu x y = is_less_unsigned x y  -- 2.4.1
imm_result imms.Xori x y = bit_xor x y  -- 2.4.1
imm_result imms.Ori x y = bit_or x y  -- 2.4.1
imm_result imms.Andi x y = bit_and x y  -- 2.4.1
imm_result imms.Slli x y = shifted_left w64 x y  -- 4.2.1
imm_result imms.Srli x y = shifted_right w64 x y  -- 4.2.1
imm_result imms.Srai x y = shifted_right_signed w64 x y  -- 4.2.1

-- the same on the low word of x, before the result is sign-extended
abbrev pub imm_word : ImmWKind → ℕ → ℕ → ℕ
imm_word imm_ws.Addiw x y = sum w32 x y  -- 4.2.1
imm_word imm_ws.Slliw x y = shifted_left w32 x y  -- 4.2.1
imm_word imm_ws.Srliw x y = shifted_right w32 x y  -- 4.2.1
imm_word imm_ws.Sraiw x y = shifted_right_signed w32 x y  -- 4.2.1

unfoldable pub imm_w_result : ImmWKind → ℕ → ℕ → ℕ
imm_w_result kind x y = sign_extended w32 (imm_word kind (low_word x) (low_word y))

-- two registers
unfoldable pub reg_result : RegKind → ℕ → ℕ → ℕ
reg_result regs.Add x y = sum w64 x y  -- 2.4.2
reg_result regs.Sub x y = difference w64 x y  -- 2.4.2
reg_result regs.Sll x y = shifted_left w64 x y  -- 4.2.2
reg_result regs.Slt x y = is_less x y  -- 2.4.2
reg_result regs.Sltu x y = is_less_unsigned x y  -- 2.4.2
reg_result regs.Xor x y = bit_xor x y  -- 2.4.2
reg_result regs.Srl x y = shifted_right w64 x y  -- 4.2.2
reg_result regs.Sra x y = shifted_right_signed w64 x y  -- 4.2.2
reg_result regs.Or x y = bit_or x y  -- 2.4.2
reg_result regs.And x y = bit_and x y  -- 2.4.2
reg_result regs.Mul x y = product w64 x y  -- 13.1
reg_result regs.Mulh x y = high_half (cast_signed w64 x) (cast_signed w64 y)  -- 13.1
reg_result regs.Mulhsu x y = high_half (cast_signed w64 x) (pos y)  -- 13.1
reg_result regs.Mulhu x y = high_half_unsigned x y  -- 13.1
reg_result regs.Div x y = quotient w64 x y  -- 13.2
reg_result regs.Divu x y = quotient_unsigned w64 x y  -- 13.2
reg_result regs.Rem x y = remainder w64 x y  -- 13.2
reg_result regs.Remu x y = remainder_unsigned x y  -- 13.2

-- the same on the low words of x and y, before the result is sign-extended
abbrev pub reg_word : RegWKind → ℕ → ℕ → ℕ
reg_word reg_ws.Addw x y = sum w32 x y  -- 4.2.2
reg_word reg_ws.Subw x y = difference w32 x y  -- 4.2.2
reg_word reg_ws.Sllw x y = shifted_left w32 x y  -- 4.2.2
reg_word reg_ws.Srlw x y = shifted_right w32 x y  -- 4.2.2
reg_word reg_ws.Sraw x y = shifted_right_signed w32 x y  -- 4.2.2
reg_word reg_ws.Mulw x y = product w32 x y  -- 13.1
reg_word reg_ws.Divw x y = quotient w32 x y  -- 13.2
reg_word reg_ws.Divuw x y = quotient_unsigned w32 x y  -- 13.2
reg_word reg_ws.Remw x y = remainder w32 x y  -- 13.2
reg_word reg_ws.Remuw x y = remainder_unsigned x y  -- 13.2

unfoldable pub reg_w_result : RegWKind → ℕ → ℕ → ℕ
reg_w_result kind x y = sign_extended w32 (reg_word kind (low_word x) (low_word y))

-- whether a conditional branch is taken
unfoldable pub is_taken : BranchKind → ℕ → ℕ → Bool
is_taken branches.Beq x y = x == y  -- 2.5.2
is_taken branches.Bne x y = not (x == y)  -- 2.5.2
is_taken branches.Blt x y = int_lt (cast_signed w64 x) (cast_signed w64 y)  -- 2.5.2
is_taken branches.Bge x y = int_le (cast_signed w64 y) (cast_signed w64 x)  -- 2.5.2
is_taken branches.Bltu x y = nat_lt x y  -- 2.5.2
is_taken branches.Bgeu x y = nat_le y x  -- 2.5.2
