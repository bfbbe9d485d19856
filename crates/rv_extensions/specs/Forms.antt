-- The 16-bit instructions of Zcb, Zcmop, Zcmp and Zcmt (RISC-V Unprivileged ISA 20240411, chapters
-- "Zc*" and "Zimop"), those of Zcb with the meaning of the 32-bit instruction that each stands for.
-- The fields of a halfword are those of chapter "C".
use Rattle.std.specs.Prelude.{ℕ, zero, suc, ◌+◌, ◌*◌, ◌-◌, ◌==◌, nat_lt, Bool, true, ◌&&◌, ◌||◌, List, []}
use Rattle.std.specs.Prelude.{◌∷◌, ◌++◌, Option, pos, negsuc, bit_or, if◌then◌else◌}
use Rattle.elf_image.specs.declared.extensions.Extensions.{Extensions}
use Rattle.rv_decode.specs.Fields.{field}
use Rattle.rv_decode.specs.declared.instructions.Insn.{Insn}
use Rattle.rv_decode.specs.declared.instructions.Insn.TheVariants.{Load, Store, Imm, Reg, ShiftAdd}
use Rattle.rv_decode.specs.declared.instructions.Insn.TheVariants.{Extend, Extension, Away}
use Rattle.rv_decode.specs.declared.instructions.AwayKind.{AwayKind}
use Rattle.rv_decode.specs.declared.instructions.AwayKind.TheVariants as away
use Rattle.rv_decode.specs.declared.instructions.LoadKind.TheVariants.{Lbu, Lhu, Lh}
use Rattle.rv_decode.specs.declared.instructions.StoreKind.TheVariants.{Sb, Sh}
use Rattle.rv_decode.specs.declared.instructions.ImmKind.TheVariants.{Andi, Xori}
use Rattle.rv_decode.specs.declared.instructions.RegKind.TheVariants.{Mul}
use Rattle.rv_decode.specs.declared.instructions.ExtendKind.TheVariants.{SextB, SextH, ZextH}
use Rattle.rvc_expand.specs.Halfword.{first_popular, second_popular, first_register}
use Rattle.rv_extensions.specs.Rows.{Row, row, Condition, bits, differ, first_meaning}
use Rattle.rv_extensions.specs.Registers.{only, both}
use Rattle.rv_extensions.specs.Table.{counted}

-- the quadrant and funct3 of a halfword
abbrev pub quadrant_is : ℕ → Condition
quadrant_is n = bits 1 0 (n ∷ [])

abbrev pub form_is : ℕ → Condition
form_is n = bits 15 13 (n ∷ [])

-- ---- Zcb: loads and stores, by bits 12 to 10; one of a halfword also by bit 6

-- of a byte: uimm[0] is bit 6, uimm[1] is bit 5; of a halfword uimm[1] is bit 5
abbrev pub byte_offset : ℕ → ℕ
byte_offset h = field h 6 6 + field h 5 5 * 2

abbrev pub half_offset : ℕ → ℕ
half_offset h = field h 5 5 * 2

abbrev pub memory_form : ℕ → List Condition → (ℕ → Insn) → Row
memory_form function others meaning =
    row (λ e. e.zcb) (quadrant_is 0 ∷ form_is 4 ∷ bits 12 10 (function ∷ []) ∷ others) meaning

unfoldable pub memory_forms : List Row
memory_forms =
    -- C.LBU
    memory_form 0 [] (λ h. Load Lbu (second_popular h) (first_popular h) (pos (byte_offset h))) ∷
    -- C.LHU, C.LH
    memory_form 1 (bits 6 6 (0 ∷ []) ∷ [])
    (λ h. Load Lhu (second_popular h) (first_popular h) (pos (half_offset h))) ∷
    memory_form 1 (bits 6 6 (1 ∷ []) ∷ [])
    (λ h. Load Lh (second_popular h) (first_popular h) (pos (half_offset h))) ∷
    -- C.SB
    memory_form 2 [] (λ h. Store Sb (first_popular h) (second_popular h) (pos (byte_offset h))) ∷
    -- C.SH
    memory_form 3 (bits 6 6 (0 ∷ []) ∷ [])
    (λ h. Store Sh (first_popular h) (second_popular h) (pos (half_offset h))) ∷ []

-- ---- Zcb: arithmetic on a register, by bits 6 to 2; C.MUL, by bits 6 to 5

abbrev pub arithmetic_form : (Extensions → Bool) → List Condition → (ℕ → Insn) → Row
arithmetic_form named others meaning =
    row named (quadrant_is 1 ∷ form_is 4 ∷ bits 12 12 (1 ∷ []) ∷ bits 11 10 (3 ∷ []) ∷ others) meaning

abbrev pub unary_form : (Extensions → Bool) → ℕ → (ℕ → Insn) → Row
unary_form named function =
    arithmetic_form named (bits 6 5 (3 ∷ []) ∷ bits 4 2 (function ∷ []) ∷ [])

unfoldable pub arithmetic_forms : List Row
arithmetic_forms =
    -- C.ZEXT.B
    unary_form (λ e. e.zcb) 0 (λ h. Imm Andi (first_popular h) (first_popular h) (pos 255)) ∷
    -- C.SEXT.B, C.ZEXT.H, C.SEXT.H
    unary_form (λ e. e.zcb && e.zbb) 1 (λ h. Extend SextB (first_popular h) (first_popular h)) ∷
    unary_form (λ e. e.zcb && e.zbb) 2 (λ h. Extend ZextH (first_popular h) (first_popular h)) ∷
    unary_form (λ e. e.zcb && e.zbb) 3 (λ h. Extend SextH (first_popular h) (first_popular h)) ∷
    -- C.ZEXT.W
    unary_form (λ e. e.zcb && e.zba) 4
    (λ h. ShiftAdd 0 true (first_popular h) (first_popular h) 0) ∷
    -- C.NOT, an exclusive or with -1
    unary_form (λ e. e.zcb) 5 (λ h. Imm Xori (first_popular h) (first_popular h) (negsuc 0)) ∷
    -- C.MUL
    arithmetic_form (λ e. e.zcb) (bits 6 5 (2 ∷ []) ∷ [])
    (λ h. Reg Mul (first_popular h) (first_popular h) (second_popular h)) ∷ []

-- ---- Zcmop: C.MOP.n is C.LUI of xn, for odd n below 16, with the immediate 0; it reads xn

unfoldable pub may_be_forms : List Row
may_be_forms =
    row (λ e. e.zcmop)
    (quadrant_is 1 ∷ form_is 3 ∷ bits 12 12 (0 ∷ []) ∷ bits 11 11 (0 ∷ []) ∷ bits 7 7 (1 ∷ []) ∷ bits 6 2 (0 ∷ []) ∷ [])
    (λ h. Extension (only (first_register h)) 0) ∷ []

-- ---- Zcmp and Zcmt, in the place of C.FSDSP

-- Where a file names one of these, or floats in integer registers, the compressed loads and stores
-- of doubles are no instructions. That the name wins over D is this project's profile.
abbrev pub takes_doubles : Extensions → Bool
takes_doubles e = e.zfinx || (e.zcmp || e.zcmt)

-- a saved register by its number of three bits: s0 and s1 are x8 and x9, s2 to s7 x18 to x23
abbrev pub saved_register : ℕ → ℕ
saved_register n = if nat_lt n 2 then n + 8 else n + 16

-- The mask of so many saved registers, the first ones: s0, s1, and then x18 and those after it.
abbrev pub saved : ℕ → ℕ
saved zero = 0
saved (suc n) = bit_or (saved n) (only (saved_register n))

-- The registers of a list of four bits from 4 on: x1 and as many saved registers as it says. The
-- last list has s10 and s11, since s10 never stands alone.
abbrev pub listed : ℕ → ℕ
listed list = bit_or (only 1) (saved (if list == 15 then 12 else list - 4))

abbrev pub register_list : ℕ → ℕ
register_list h = field h 7 4

-- the registers in bits 9 to 7 and 4 to 2
abbrev pub two_saved : ℕ → ℕ → ℕ
two_saved first second = both (saved_register first) (saved_register second)

abbrev pub moved : ℕ → ℕ
moved h = two_saved (field h 9 7) (field h 4 2)

-- by bits 12 to 10
abbrev pub stack_form : (Extensions → Bool) → ℕ → List Condition → (ℕ → Insn) → Row
stack_form named function others meaning =
    row named (quadrant_is 2 ∷ form_is 5 ∷ bits 12 10 (function ∷ []) ∷ others) meaning

-- by bits 9 and 8 too, with a register list
abbrev pub list_form : ℕ → ℕ → (ℕ → Insn) → Row
list_form function low meaning =
    stack_form (λ e. e.zcmp) function (bits 9 8 (low ∷ []) ∷ bits 7 4 (counted 4 12) ∷ []) meaning

unfoldable pub stack_forms : List Row
stack_forms =
    -- CM.PUSH, CM.POP
    list_form 0b110 0b00 (λ h. Extension (bit_or (only 2) (listed (register_list h))) (only 2)) ∷
    list_form 0b110 0b10 (λ h. Extension (only 2) (bit_or (only 2) (listed (register_list h)))) ∷
    -- CM.POPRETZ, which writes x10 too, CM.POPRET
    list_form 0b111 0b00
    (λ h. Away away.Return (only 2) (bit_or (both 2 10) (listed (register_list h)))) ∷
    list_form 0b111 0b10
    (λ h. Away away.Return (only 2) (bit_or (only 2) (listed (register_list h)))) ∷
    -- CM.MVSA01, whose two registers differ, CM.MVA01S
    stack_form (λ e. e.zcmp) 0b011 (bits 6 5 (0b01 ∷ []) ∷ differ 9 7 4 2 ∷ [])
    (λ h. Extension (both 10 11) (moved h)) ∷
    stack_form (λ e. e.zcmp) 0b011 (bits 6 5 (0b11 ∷ []) ∷ [])
    (λ h. Extension (moved h) (both 10 11)) ∷
    -- CM.JT, whose index is below 32, CM.JALT
    stack_form (λ e. e.zcmt) 0b000 (bits 9 7 (0 ∷ []) ∷ []) (λ h. Away away.Unknown 0 0) ∷
    stack_form (λ e. e.zcmt) 0b000 (bits 9 7 (counted 1 7) ∷ [])
    (λ h. Away away.Call 0 (only 1)) ∷ []

unfoldable pub extension_forms : List Row
extension_forms = memory_forms ++ arithmetic_forms ++ may_be_forms ++ stack_forms

-- the instruction that a halfword stands for by the extensions that a file names, if it is one
unfoldable pub extension_form : Extensions → ℕ → Option Insn
extension_form e half = first_meaning e extension_forms half
