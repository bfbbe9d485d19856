-- The compressed instructions of RV64C without the floating-point forms, one row a form (RISC-V
-- Unprivileged ISA 20240411, chapter "C" Extension for Compressed Instructions, "RVC Instruction
-- Set Listings"). Which hints and reserved encodings the rows hold of is this project's profile.
use Rattle.std.specs.Prelude.{ℕ, Bool, not, ◌&&◌, ◌==◌, List, [], ◌∷◌, ◌++◌, Option, Some, None}
use Rattle.std.specs.Prelude.{if◌then◌else◌}
use Rattle.rvc_expand.specs.Bits.{field}
use Rattle.rvc_expand.specs.Halfword.{is_at, is_nonzero, first_register, second_register}
use Rattle.rvc_expand.specs.Halfword.{first_popular, second_popular, shift_amount, small_immediate}
use Rattle.rvc_expand.specs.Halfword.{lui_immediate, addi16sp_immediate, addi4spn_immediate}
use Rattle.rvc_expand.specs.Halfword.{word_offset, double_offset, lwsp_offset, ldsp_offset}
use Rattle.rvc_expand.specs.Halfword.{swsp_offset, sdsp_offset, jump_offset, branch_offset}
use Rattle.rvc_expand.specs.Instructions.{addi, andi, slli, srli, srai, addiw, lui, lw, ld, sw, sd}
use Rattle.rvc_expand.specs.Instructions.{add, sub, xor, or, and, addw, subw, jal, jalr, beq, bne}
use Rattle.rvc_expand.specs.Instructions.{ebreak}

-- a row: which halfwords it holds of, and the 32-bit instruction that such a halfword stands for
pub record Form : Type 0 where
  pub holds : ℕ → Bool
  pub word : ℕ → ℕ

abbrev pub form : (ℕ → Bool) → (ℕ → ℕ) → Form
form holds word = record { holds = holds; word = word }

-- x0, x1 (the link register) and x2 (the stack pointer)
abbrev pub zero_register : ℕ
zero_register = 0

abbrev pub link_register : ℕ
link_register = 1

abbrev pub stack_pointer : ℕ
stack_pointer = 2

-- Quadrant 0. Funct3 001 and 101 belong to the D extension, and 100 is reserved.
unfoldable pub quadrant_0 : List Form
quadrant_0 =
    -- C.ADDI4SPN; with immediate 0 the halfword 0000 is the defined illegal instruction
    form (λ h. is_at h 0b00 0b000 && is_nonzero (addi4spn_immediate h))
    (λ h. addi (second_popular h) stack_pointer (addi4spn_immediate h))
    -- C.LW
    ∷ form (λ h. is_at h 0b00 0b010) (λ h. lw (second_popular h) (first_popular h) (word_offset h))
    -- C.LD
    ∷ form (λ h. is_at h 0b00 0b011)
    (λ h. ld (second_popular h) (first_popular h) (double_offset h))
    -- C.SW
    ∷ form (λ h. is_at h 0b00 0b110) (λ h. sw (second_popular h) (first_popular h) (word_offset h))
    -- C.SD
    ∷ form (λ h. is_at h 0b00 0b111)
    (λ h. sd (second_popular h) (first_popular h) (double_offset h))
    ∷ []

-- the arithmetic forms of quadrant 1, at funct3 100: bits 11 to 10 choose
abbrev pub is_arithmetic : ℕ → ℕ → Bool
is_arithmetic half funct2 = is_at half 0b01 0b100 && field half 11 10 == funct2

-- those of two registers, with 11 there: bit 12 and bits 6 to 5 choose
abbrev pub is_register_arithmetic : ℕ → ℕ → ℕ → Bool
is_register_arithmetic half bit_12 funct2 =
    is_arithmetic half 0b11 && field half 12 12 == bit_12 && field half 6 5 == funct2

-- Quadrant 1. Of the arithmetic forms of two registers 1 with 10 and 1 with 11 are reserved.
unfoldable pub quadrant_1 : List Form
quadrant_1 =
    -- C.NOP, C.ADDI
    form (λ h. is_at h 0b01 0b000)
    (λ h. addi (first_register h) (first_register h) (small_immediate h))
    -- C.ADDIW
    ∷ form (λ h. is_at h 0b01 0b001 && is_nonzero (first_register h))
    (λ h. addiw (first_register h) (first_register h) (small_immediate h))
    -- C.LI
    ∷ form (λ h. is_at h 0b01 0b010)
    (λ h. addi (first_register h) zero_register (small_immediate h))
    -- C.ADDI16SP
    ∷ form (λ h. is_at h 0b01 0b011 && first_register h == stack_pointer
    && is_nonzero (addi16sp_immediate h))
    (λ h. addi stack_pointer stack_pointer (addi16sp_immediate h))
    -- C.LUI
    ∷ form (λ h. is_at h 0b01 0b011 && not (first_register h == stack_pointer)
    && is_nonzero (lui_immediate h))
    (λ h. lui (first_register h) (lui_immediate h))
    -- C.SRLI
    ∷ form (λ h. is_arithmetic h 0b00)
    (λ h. srli (first_popular h) (first_popular h) (shift_amount h))
    -- C.SRAI
    ∷ form (λ h. is_arithmetic h 0b01)
    (λ h. srai (first_popular h) (first_popular h) (shift_amount h))
    -- C.ANDI
    ∷ form (λ h. is_arithmetic h 0b10)
    (λ h. andi (first_popular h) (first_popular h) (small_immediate h))
    -- C.SUB
    ∷ form (λ h. is_register_arithmetic h 0 0b00)
    (λ h. sub (first_popular h) (first_popular h) (second_popular h))
    -- C.XOR
    ∷ form (λ h. is_register_arithmetic h 0 0b01)
    (λ h. xor (first_popular h) (first_popular h) (second_popular h))
    -- C.OR
    ∷ form (λ h. is_register_arithmetic h 0 0b10)
    (λ h. or (first_popular h) (first_popular h) (second_popular h))
    -- C.AND
    ∷ form (λ h. is_register_arithmetic h 0 0b11)
    (λ h. and (first_popular h) (first_popular h) (second_popular h))
    -- C.SUBW
    ∷ form (λ h. is_register_arithmetic h 1 0b00)
    (λ h. subw (first_popular h) (first_popular h) (second_popular h))
    -- C.ADDW
    ∷ form (λ h. is_register_arithmetic h 1 0b01)
    (λ h. addw (first_popular h) (first_popular h) (second_popular h))
    -- C.J
    ∷ form (λ h. is_at h 0b01 0b101) (λ h. jal zero_register (jump_offset h))
    -- C.BEQZ
    ∷ form (λ h. is_at h 0b01 0b110) (λ h. beq (first_popular h) zero_register (branch_offset h))
    -- C.BNEZ
    ∷ form (λ h. is_at h 0b01 0b111) (λ h. bne (first_popular h) zero_register (branch_offset h))
    ∷ []

-- the moves, additions and jumps by registers of quadrant 2, at funct3 100: bit 12 chooses, and
-- which registers are x0
abbrev pub is_move_or_jump : ℕ → ℕ → Bool
is_move_or_jump half bit_12 = is_at half 0b10 0b100 && field half 12 12 == bit_12

-- Quadrant 2. Funct3 001 and 101 belong to the D extension.
unfoldable pub quadrant_2 : List Form
quadrant_2 =
    -- C.SLLI
    form (λ h. is_at h 0b10 0b000)
    (λ h. slli (first_register h) (first_register h) (shift_amount h))
    -- C.LWSP
    ∷ form (λ h. is_at h 0b10 0b010 && is_nonzero (first_register h))
    (λ h. lw (first_register h) stack_pointer (lwsp_offset h))
    -- C.LDSP
    ∷ form (λ h. is_at h 0b10 0b011 && is_nonzero (first_register h))
    (λ h. ld (first_register h) stack_pointer (ldsp_offset h))
    -- C.JR
    ∷ form (λ h. is_move_or_jump h 0 && second_register h == 0 && is_nonzero (first_register h))
    (λ h. jalr zero_register (first_register h) 0)
    -- C.MV
    ∷ form (λ h. is_move_or_jump h 0 && is_nonzero (second_register h))
    (λ h. add (first_register h) zero_register (second_register h))
    -- C.EBREAK
    ∷ form (λ h. is_move_or_jump h 1 && second_register h == 0 && first_register h == 0)
    (λ h. ebreak)
    -- C.JALR
    ∷ form (λ h. is_move_or_jump h 1 && second_register h == 0 && is_nonzero (first_register h))
    (λ h. jalr link_register (first_register h) 0)
    -- C.ADD
    ∷ form (λ h. is_move_or_jump h 1 && is_nonzero (second_register h))
    (λ h. add (first_register h) (first_register h) (second_register h))
    -- C.SWSP
    ∷ form (λ h. is_at h 0b10 0b110) (λ h. sw (second_register h) stack_pointer (swsp_offset h))
    -- C.SDSP
    ∷ form (λ h. is_at h 0b10 0b111) (λ h. sd (second_register h) stack_pointer (sdsp_offset h))
    ∷ []

-- the whole table; a halfword of quadrant 3 (11) begins an instruction of 32 bits or more
unfoldable pub forms : List Form
forms = quadrant_0 ++ quadrant_1 ++ quadrant_2

-- the word of the first of the forms that holds of the halfword
abbrev pub first_word : List Form → ℕ → Option ℕ
first_word [] half = None
first_word (row ∷ rest) half = if row.holds half then Some (row.word half) else first_word rest half

-- the 32-bit instruction that a halfword stands for, if the table has one
unfoldable pub expansion : ℕ → Option ℕ
expansion half = first_word forms half
