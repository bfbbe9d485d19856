-- The compressed loads and stores of the D extension (RISC-V Unprivileged ISA 20240411, chapter "C"
-- Extension for Compressed Instructions, "RVC Instruction Set Listings"), each as the 32-bit
-- instruction that it stands for.
use Rattle.std.specs.Prelude.{ℕ, List, [], ◌∷◌, Option}
use Rattle.rvc_expand.specs.Formats.{i_type, s_type}
use Rattle.rvc_expand.specs.Halfword.{is_at, first_register, second_register, first_popular}
use Rattle.rvc_expand.specs.Halfword.{second_popular, double_offset, ldsp_offset, sdsp_offset}
use Rattle.rvc_expand.specs.Table.{Form, form, first_word, stack_pointer}

-- a load's address is rs1 plus the offset; a store writes rs2 there
abbrev pub fld : (rd rs1 offset : ℕ) → ℕ
fld rd rs1 offset = i_type 0x07 3 rd rs1 offset

abbrev pub fsd : (rs2 rs1 offset : ℕ) → ℕ
fsd rs2 rs1 offset = s_type 0x27 3 rs1 rs2 offset

-- the four forms
unfoldable pub float_forms : List Form
float_forms =
    -- C.FLD
    form (λ h. is_at h 0b00 0b001) (λ h. fld (second_popular h) (first_popular h) (double_offset h))
    -- C.FSD
    ∷ form (λ h. is_at h 0b00 0b101)
    (λ h. fsd (second_popular h) (first_popular h) (double_offset h))
    -- C.FLDSP
    ∷ form (λ h. is_at h 0b10 0b001) (λ h. fld (first_register h) stack_pointer (ldsp_offset h))
    -- C.FSDSP
    ∷ form (λ h. is_at h 0b10 0b101) (λ h. fsd (second_register h) stack_pointer (sdsp_offset h))
    ∷ []

-- the 32-bit instruction that a halfword stands for, if it is one of the four
unfoldable pub float_expansion : ℕ → Option ℕ
float_expansion half = first_word float_forms half
