-- The forms at work on small files, by computation: tables of 32-bit instructions and of compressed
-- ones, two that overlap, one without a bound test, one of doublewords, and one that is declared; and
-- what instructions of extensions leave in a register.
use Rattle.std.proofs.Common.{◌≡◌, ℕ, true, false, ◌+◌, ◌/◌, ◌%◌, List, [], ◌∷◌, ◌++◌, length, take, drop, Some, None, refl}
use Rattle.std.specs.List.{flat_map}
use Rattle.elf_image.specs.Number.{u16_at, u32_at, u64_at}
use Rattle.elf_image.specs.Sections.{section, sections}
use Rattle.elf_image.specs.Code.{code_section_of}
use Rattle.elf_image.specs.ReadOnly.{data_section_of}
use Rattle.elf_image.specs.DeclaredTables.{declared_tables, declared_at}
use Rattle.rv_decode.specs.Table.{instruction, rows, upper_rows, jump_rows, branch_rows, load_rows, store_rows, imm_rows, imm_w_rows, reg_rows, reg_w_rows, atomic_rows_of, atomic_rows, fence_rows, system_rows}
use Rattle.rvc_expand.specs.Table.{expansion, forms, quadrant_0, quadrant_1, quadrant_2}
use Rattle.rvc_expand.specs.Halfword.{shift_amount, small_immediate, lui_immediate, addi16sp_immediate, addi4spn_immediate, word_offset, double_offset, lwsp_offset, ldsp_offset, swsp_offset, sdsp_offset, jump_offset, branch_offset}
use Rattle.rvc_expand.specs.Formats.{r_type, i_type, s_type, b_type, u_type, j_type}
use Rattle.jump_table.specs.Section.{straight_run}
use Rattle.jump_table.specs.Nearest.{evens}
use Rattle.jump_table.specs.Bound.{bound_test}
use Rattle.jump_table.specs.Table.{declared_place, open_place, table_at, table_targets}
use Rattle.rv_decode.specs.declared.instructions.ExtendKind.TheVariants.{SextB}
use Rattle.jump_table.specs.declared.width.Width.TheVariants.{Word, Double}
use Rattle.jump_table.specs.declared.values.Form.TheVariants.{Bounded, Open}
use Rattle.jump_table.specs.declared.values.Value.TheVariants.{Unknown, Const, Index, High, Addr}
use Rattle.jump_table.specs.Values.{Registers, at_test, forgotten, written, shift_add_value, extend_value, overwritten}

-- the four bytes of a word, and the words of a list, little-endian
abbrev word : ℕ → List ℕ
word w = w % 256 ∷ w / 256 % 256 ∷ w / 65536 % 256 ∷ w / 16777216 % 256 ∷ []

abbrev words : List ℕ → List ℕ
words ws = flat_map word ws

-- a number below 2 to the power 32 in the eight bytes of a field
abbrev wide : ℕ → List ℕ
wide n = word n ++ word 0

-- a section header: type, flags, address, offset, size
abbrev section_entry : ℕ → ℕ → ℕ → ℕ → ℕ → List ℕ
section_entry kind flags address offset size =
    word 0 ++ word kind ++ wide flags ++ wide address ++ wide offset ++ wide size ++ word 0 ++ word 0 ++ wide 0 ++ wide 0

-- a file of code at 10000 and read-only data at 20000 (hexadecimal), both of whole doublewords or with
-- `pad` zero bytes behind the data
abbrev file_of : List ℕ → List ℕ → List ℕ → List ℕ
file_of code rodata pad =
    (0x7F ∷ 0x45 ∷ 0x4C ∷ 0x46 ∷ 2 ∷ 1 ∷ 1 ∷ 0 ∷ []) ++ wide 0
    ++ (2 ∷ 0 ∷ 243 ∷ 0 ∷ []) ++ word 1 ++ wide 0x10000 ++ wide 0 ++ wide (64 + length code + length rodata + length pad)
    ++ word 0 ++ (64 ∷ 0 ∷ 0 ∷ 0 ∷ 0 ∷ 0 ∷ 64 ∷ 0 ∷ 3 ∷ 0 ∷ 0 ∷ 0 ∷ [])
    ++ code ++ rodata ++ pad
    ++ section_entry 0 0 0 0 0
    ++ section_entry 1 6 0x10000 64 (length code)
    ++ section_entry 1 2 0x20000 (64 + length code) (length rodata)

-- ---- 32-bit instructions; the jump stands at 1001c (hexadecimal)

plain_file : List ℕ
plain_file =
    file_of (words (0x00700793 ∷ 0x02A7E263 ∷ 0x00020737 ∷ 0x00251513 ∷ 0x00E50533 ∷ 0x00052783 ∷ 0x00E787B3 ∷ 0x00078067 ∷ 0x00008067 ∷ 0x00008067 ∷ 0x00008067 ∷ 0x00008067 ∷ []))
    (words (0xFFFF0020 ∷ 0xFFFF0020 ∷ 0xFFFF0020 ∷ 0xFFFF0020 ∷ 0xFFFF0020 ∷ 0xFFFF0020 ∷ 0xFFFF0020 ∷ 0xFFFF0024 ∷ 0xFFFF002C ∷ []))
    (word 0)

-- the eighth entry counts, since the bound test is `bltu`, and the ninth word does not
plain_table : table_at plain_file 0x1001C ≡ Some (record { base = 0x20000; width = 4; count = 8; bound = 8; add = 0x20000; is_open = false })
unfolding plain_file u16_at u32_at u64_at section sections code_section_of data_section_of instruction rows upper_rows jump_rows branch_rows load_rows store_rows imm_rows imm_w_rows reg_rows reg_w_rows atomic_rows_of atomic_rows fence_rows system_rows expansion forms quadrant_0 quadrant_1 quadrant_2 shift_amount small_immediate lui_immediate addi16sp_immediate addi4spn_immediate word_offset double_offset lwsp_offset ldsp_offset swsp_offset sdsp_offset jump_offset branch_offset r_type i_type s_type b_type u_type j_type table_at bound_test open_place evens straight_run declared_tables declared_at
plain_table = refl

plain_targets : table_targets plain_file (record { base = 0x20000; width = 4; count = 8; bound = 8; add = 0x20000; is_open = false })
    ≡ 0x10020 ∷ 0x10020 ∷ 0x10020 ∷ 0x10020 ∷ 0x10020 ∷ 0x10020 ∷ 0x10020 ∷ 0x10024 ∷ []
unfolding plain_file u16_at u32_at u64_at section sections code_section_of data_section_of instruction rows upper_rows jump_rows branch_rows load_rows store_rows imm_rows imm_w_rows reg_rows reg_w_rows atomic_rows_of atomic_rows fence_rows system_rows expansion forms quadrant_0 quadrant_1 quadrant_2 shift_amount small_immediate lui_immediate addi16sp_immediate addi4spn_immediate word_offset double_offset lwsp_offset ldsp_offset swsp_offset sdsp_offset jump_offset branch_offset r_type i_type s_type b_type u_type j_type table_at bound_test open_place evens straight_run declared_tables declared_at
plain_targets = refl

-- a return is no table jump
no_table : table_at plain_file 0x10020 ≡ None
unfolding plain_file u16_at u32_at u64_at section sections code_section_of data_section_of instruction rows upper_rows jump_rows branch_rows load_rows store_rows imm_rows imm_w_rows reg_rows reg_w_rows atomic_rows_of atomic_rows fence_rows system_rows expansion forms quadrant_0 quadrant_1 quadrant_2 shift_amount small_immediate lui_immediate addi16sp_immediate addi4spn_immediate word_offset double_offset lwsp_offset ldsp_offset swsp_offset sdsp_offset jump_offset branch_offset r_type i_type s_type b_type u_type j_type table_at bound_test open_place evens straight_run declared_tables declared_at
no_table = refl

-- ---- compressed instructions; the jump stands at 10012 (hexadecimal)

compressed_file : List ℕ
compressed_file =
    file_of (words (0xEA63479D ∷ 0x073700A7 ∷ 0x050A0002 ∷ 0x411C953A ∷ 0x878297BA ∷ 0x80828082 ∷ []))
    (words (0xFFFF0014 ∷ 0xFFFF0014 ∷ 0xFFFF0014 ∷ 0xFFFF0014 ∷ 0xFFFF0014 ∷ 0xFFFF0014 ∷ 0xFFFF0014 ∷ 0xFFFF0014 ∷ []))
    []

compressed_table : table_at compressed_file 0x10012 ≡ Some (record { base = 0x20000; width = 4; count = 8; bound = 8; add = 0x20000; is_open = false })
unfolding compressed_file u16_at u32_at u64_at section sections code_section_of data_section_of instruction rows upper_rows jump_rows branch_rows load_rows store_rows imm_rows imm_w_rows reg_rows reg_w_rows atomic_rows_of atomic_rows fence_rows system_rows expansion forms quadrant_0 quadrant_1 quadrant_2 shift_amount small_immediate lui_immediate addi16sp_immediate addi4spn_immediate word_offset double_offset lwsp_offset ldsp_offset swsp_offset sdsp_offset jump_offset branch_offset r_type i_type s_type b_type u_type j_type table_at bound_test open_place evens straight_run declared_tables declared_at
compressed_table = refl

-- ---- two tables that overlap; the jumps stand at 1001c and 10048 (hexadecimal)

overlapping_file : List ℕ
overlapping_file =
    file_of (words (0x00300793 ∷ 0x02A7E063 ∷ 0x00020737 ∷ 0x00251513 ∷ 0x00E50533 ∷ 0x00052783 ∷ 0x00E787B3 ∷ 0x00078067 ∷ 0x00008067 ∷ 0x00008067 ∷ 0x00100793 ∷ 0x02A7E263 ∷ 0x00020737 ∷ 0x00870713 ∷ 0x00251513 ∷ 0x00E50533 ∷ 0x00052783 ∷ 0x00E787B3 ∷ 0x00078067 ∷ 0x00008067 ∷ 0x00008067 ∷ 0x00008067 ∷ []))
    (words (0xFFFF0020 ∷ 0xFFFF0020 ∷ 0xFFFF004C ∷ 0xFFFF004C ∷ []))
    []

first_table : table_at overlapping_file 0x1001C ≡ Some (record { base = 0x20000; width = 4; count = 4; bound = 4; add = 0x20000; is_open = false })
unfolding overlapping_file u16_at u32_at u64_at section sections code_section_of data_section_of instruction rows upper_rows jump_rows branch_rows load_rows store_rows imm_rows imm_w_rows reg_rows reg_w_rows atomic_rows_of atomic_rows fence_rows system_rows expansion forms quadrant_0 quadrant_1 quadrant_2 shift_amount small_immediate lui_immediate addi16sp_immediate addi4spn_immediate word_offset double_offset lwsp_offset ldsp_offset swsp_offset sdsp_offset jump_offset branch_offset r_type i_type s_type b_type u_type j_type table_at bound_test open_place evens straight_run declared_tables declared_at
first_table = refl

second_table : table_at overlapping_file 0x10048 ≡ Some (record { base = 0x20008; width = 4; count = 2; bound = 2; add = 0x20008; is_open = false })
unfolding overlapping_file u16_at u32_at u64_at section sections code_section_of data_section_of instruction rows upper_rows jump_rows branch_rows load_rows store_rows imm_rows imm_w_rows reg_rows reg_w_rows atomic_rows_of atomic_rows fence_rows system_rows expansion forms quadrant_0 quadrant_1 quadrant_2 shift_amount small_immediate lui_immediate addi16sp_immediate addi4spn_immediate word_offset double_offset lwsp_offset ldsp_offset swsp_offset sdsp_offset jump_offset branch_offset r_type i_type s_type b_type u_type j_type table_at bound_test open_place evens straight_run declared_tables declared_at
second_table = refl

-- ---- no bound test; the jump stands at 10014 (hexadecimal)

open_file : List ℕ
open_file =
    file_of (words (0x00020737 ∷ 0x00251513 ∷ 0x00E50533 ∷ 0x00052783 ∷ 0x00E787B3 ∷ 0x00078067 ∷ 0x00008067 ∷ 0x00008067 ∷ []))
    (words (0xFFFF0018 ∷ 0xFFFF001C ∷ 0 ∷ []))
    (word 0)

-- what registers hold in front of the shift is not known, so it may be the index
open_table : table_at open_file 0x10014 ≡ Some (record { base = 0x20000; width = 4; count = 2; bound = 1024; add = 0x20000; is_open = true })
unfolding open_file u16_at u32_at u64_at section sections code_section_of data_section_of instruction rows upper_rows jump_rows branch_rows load_rows store_rows imm_rows imm_w_rows reg_rows reg_w_rows atomic_rows_of atomic_rows fence_rows system_rows expansion forms quadrant_0 quadrant_1 quadrant_2 shift_amount small_immediate lui_immediate addi16sp_immediate addi4spn_immediate word_offset double_offset lwsp_offset ldsp_offset swsp_offset sdsp_offset jump_offset branch_offset r_type i_type s_type b_type u_type j_type table_at bound_test open_place evens straight_run declared_tables declared_at
open_table = refl

open_targets : table_targets open_file (record { base = 0x20000; width = 4; count = 2; bound = 1024; add = 0x20000; is_open = true }) ≡ 0x10018 ∷ 0x1001C ∷ []
unfolding open_file u16_at u32_at u64_at section sections code_section_of data_section_of instruction rows upper_rows jump_rows branch_rows load_rows store_rows imm_rows imm_w_rows reg_rows reg_w_rows atomic_rows_of atomic_rows fence_rows system_rows expansion forms quadrant_0 quadrant_1 quadrant_2 shift_amount small_immediate lui_immediate addi16sp_immediate addi4spn_immediate word_offset double_offset lwsp_offset ldsp_offset swsp_offset sdsp_offset jump_offset branch_offset r_type i_type s_type b_type u_type j_type table_at bound_test open_place evens straight_run declared_tables declared_at
open_targets = refl

-- ---- doublewords; the jump stands at 10018 (hexadecimal)

doubleword_file : List ℕ
doubleword_file =
    file_of (words (0x00100793 ∷ 0x02A7E063 ∷ 0x00020737 ∷ 0x00351513 ∷ 0x00E50533 ∷ 0x00053783 ∷ 0x00078067 ∷ 0x00008067 ∷ 0x00008067 ∷ 0x00008067 ∷ []))
    (words (0x0001001C ∷ 0 ∷ 0x00010020 ∷ 0 ∷ []))
    []

doubleword_table : table_at doubleword_file 0x10018 ≡ Some (record { base = 0x20000; width = 8; count = 2; bound = 2; add = 0; is_open = false })
unfolding doubleword_file u16_at u32_at u64_at section sections code_section_of data_section_of instruction rows upper_rows jump_rows branch_rows load_rows store_rows imm_rows imm_w_rows reg_rows reg_w_rows atomic_rows_of atomic_rows fence_rows system_rows expansion forms quadrant_0 quadrant_1 quadrant_2 shift_amount small_immediate lui_immediate addi16sp_immediate addi4spn_immediate word_offset double_offset lwsp_offset ldsp_offset swsp_offset sdsp_offset jump_offset branch_offset r_type i_type s_type b_type u_type j_type table_at bound_test open_place evens straight_run declared_tables declared_at
doubleword_table = refl

doubleword_targets : table_targets doubleword_file (record { base = 0x20000; width = 8; count = 2; bound = 2; add = 0; is_open = false }) ≡ 0x1001C ∷ 0x10020 ∷ []
unfolding doubleword_file u16_at u32_at u64_at section sections code_section_of data_section_of instruction rows upper_rows jump_rows branch_rows load_rows store_rows imm_rows imm_w_rows reg_rows reg_w_rows atomic_rows_of atomic_rows fence_rows system_rows expansion forms quadrant_0 quadrant_1 quadrant_2 shift_amount small_immediate lui_immediate addi16sp_immediate addi4spn_immediate word_offset double_offset lwsp_offset ldsp_offset swsp_offset sdsp_offset jump_offset branch_offset r_type i_type s_type b_type u_type j_type table_at bound_test open_place evens straight_run declared_tables declared_at
doubleword_targets = refl

-- ---- records of one section, behind the section headers: of a return, one of a wrong size, and two of
-- the jump without a bound test

-- an address, a base, what is added, a number of entries and their size
abbrev declaration : ℕ → ℕ → ℕ → ℕ → ℕ → List ℕ
declaration j base add count size = wide j ++ wide base ++ wide add ++ word count ++ word size

declaring_file : List ℕ
declaring_file =
    take 60 open_file ++ (4 ∷ 0 ∷ 0 ∷ 0 ∷ []) ++ drop 64 open_file
    ++ section_entry 0x8CF60001 0 0 (length open_file + 64) 128
    ++ declaration 0x10018 0x20000 0x20000 2 4 ++ declaration 0x1001C 0x20000 0x20000 2 3
    ++ declaration 0x10014 0x20000 0x20000 70000 4 ++ declaration 0x10014 0x20000 0x20000 1 4

-- the first record of a jump counts, with at most 65,536 entries
first_declared : declared_place declaring_file 0x10014 ≡ Some (record { base = 0x20000; width = Word; add = 0x20000; bound = 65536; is_open = true })
unfolding declaring_file open_file u16_at u32_at u64_at section sections declared_tables declared_at
first_declared = refl

wrong_size : declared_place declaring_file 0x1001C ≡ None
unfolding declaring_file open_file u16_at u32_at u64_at section sections declared_tables declared_at
wrong_size = refl

not_declared : declared_place declaring_file 0x10010 ≡ None
unfolding declaring_file open_file u16_at u32_at u64_at section sections declared_tables declared_at
not_declared = refl

-- ---- instructions of extensions

-- x10 holds the index, or nothing that is known, and x14 a constant
abbrev tested : Registers
tested = written (at_test 10) 14 (Const 0x20000)

abbrev untested : Registers
untested = written forgotten 14 (Const 0x20000)

-- `sh2add x10, x10, x14`, `sh2add.uw` and `slli.uw x10, x10, 32`
scaled_and_added : shift_add_value (Bounded 8) [] 2 false tested 10 14 ≡ Addr 0x20000 Word
scaled_and_added = refl

scaled_in_open_form : shift_add_value Open [] 3 true untested 10 14 ≡ Addr 0x20000 Double
scaled_in_open_form = refl

shifted_up : shift_add_value (Bounded 8) [] 32 true tested 10 0 ≡ High
shifted_up = refl

-- `sext.b` of an index below 128, of one that may be 128, and of a constant
byte_kept : extend_value (Bounded 128) SextB Index ≡ Index
byte_kept = refl

byte_lost : extend_value (Bounded 129) SextB Index ≡ Unknown
byte_lost = refl

byte_extended : extend_value Open SextB (Const 0x1280) ≡ Const 0xFFFFFFFFFFFFFF80
byte_extended = refl

-- an instruction that writes x1 and x14
some_overwritten : overwritten tested 0x4002 14 ≡ Unknown
some_overwritten = refl

others_kept : overwritten tested 0x4002 10 ≡ Index
others_kept = refl
