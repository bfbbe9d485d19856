-- Runs through the bound tests of two small tables, by computation.
use Rattle.std.proofs.Common.{◌≡◌, ℕ, false, ◌+◌, ◌/◌, ◌%◌, List, [], ◌∷◌, ◌++◌, length, Some, None, refl}
use Rattle.std.specs.Prelude.{◌==◌, if◌then◌else◌, pos}
use Rattle.std.specs.List.{flat_map}
use Rattle.elf_image.specs.Number.{u16_at, u32_at, u64_at}
use Rattle.elf_image.specs.Sections.{section, sections}
use Rattle.elf_image.specs.Code.{code_section_of}
use Rattle.elf_image.specs.ReadOnly.{data_section_of}
use Rattle.rv_decode.specs.Table.{instruction, rows, upper_rows, jump_rows, branch_rows, load_rows, store_rows, imm_rows, imm_w_rows, reg_rows, reg_w_rows, atomic_rows_of, atomic_rows, fence_rows, system_rows}
use Rattle.rv_decode.specs.declared.instructions.BranchKind.TheVariants.{Bltu}
use Rattle.rv_operations.specs.Operations.{imm_result, reg_result, is_taken}
use Rattle.rv_operations.specs.Loads.{load_result}
use Rattle.rvc_expand.specs.Table.{expansion, forms, quadrant_0, quadrant_1, quadrant_2}
use Rattle.rvc_expand.specs.Halfword.{shift_amount, small_immediate, lui_immediate, addi16sp_immediate, addi4spn_immediate, word_offset, double_offset, lwsp_offset, ldsp_offset, swsp_offset, sdsp_offset, jump_offset, branch_offset}
use Rattle.rvc_expand.specs.Formats.{r_type, i_type, s_type, b_type, u_type, j_type}
use Rattle.jump_table.specs.Section.{straight_run}
use Rattle.jump_table.specs.Nearest.{evens}
use Rattle.jump_table.specs.Bound.{bound_test}
use Rattle.rv_machine.specs.State.{State}
use Rattle.rv_machine.specs.Memory.{Bytes}
use Rattle.rv_machine.specs.Access.{read_at}
use Rattle.rv_machine.specs.Step.{step_of, state_after}
use Rattle.edge_cover.specs.Runs.{ComesTo}
use Rattle.edge_cover.specs.TableRun.{IsTableRun}
use Rattle.edge_cover.proofs.Straight.{not_equal}

-- the four bytes of a word, and the words of a list, little-endian
abbrev word : ℕ → List ℕ
word w = w % 256 ∷ w / 256 % 256 ∷ w / 65536 % 256 ∷ w / 16777216 % 256 ∷ []

abbrev words : List ℕ → List ℕ
words ws = flat_map word ws

abbrev wide : ℕ → List ℕ
wide n = word n ++ word 0

-- a section header: type, flags, address, offset, size
abbrev section_entry : ℕ → ℕ → ℕ → ℕ → ℕ → List ℕ
section_entry kind flags address offset size =
    word 0 ++ word kind ++ wide flags ++ wide address ++ wide offset ++ wide size ++ word 0 ++ word 0 ++ wide 0 ++ wide 0

-- a file of code at 10000 and read-only data at 20000 (hexadecimal)
abbrev file_of : List ℕ → List ℕ → List ℕ
file_of code rodata =
    (0x7F ∷ 0x45 ∷ 0x4C ∷ 0x46 ∷ 2 ∷ 1 ∷ 1 ∷ 0 ∷ []) ++ wide 0
    ++ (2 ∷ 0 ∷ 243 ∷ 0 ∷ []) ++ word 1 ++ wide 0x10000 ++ wide 0 ++ wide (64 + length code + length rodata)
    ++ word 0 ++ (64 ∷ 0 ∷ 0 ∷ 0 ∷ 0 ∷ 0 ∷ 64 ∷ 0 ∷ 3 ∷ 0 ∷ 0 ∷ 0 ∷ [])
    ++ code ++ rodata
    ++ section_entry 0 0 0 0 0
    ++ section_entry 1 6 0x10000 64 (length code)
    ++ section_entry 1 2 0x20000 (64 + length code) (length rodata)

-- the limit 7 in x15, the test of x10, a table of eight words, and the jump at 1001c (hexadecimal)
file : List ℕ
file =
    file_of (words (0x00700793 ∷ 0x02A7E263 ∷ 0x00020737 ∷ 0x00251513 ∷ 0x00E50533 ∷ 0x00052783 ∷ 0x00E787B3 ∷ 0x00078067 ∷ 0x00008067 ∷ 0x00008067 ∷ 0x00008067 ∷ 0x00008067 ∷ []))
    (words (0xFFFF0020 ∷ 0xFFFF0020 ∷ 0xFFFF0020 ∷ 0xFFFF0020 ∷ 0xFFFF0020 ∷ 0xFFFF0020 ∷ 0xFFFF0020 ∷ 0xFFFF0024 ∷ []))

-- the same in compressed instructions, where the last entry leads to 10016, and the jump at 10012
short_file : List ℕ
short_file =
    file_of (words (0xEA63479D ∷ 0x073700A7 ∷ 0x050A0002 ∷ 0x411C953A ∷ 0x878297BA ∷ 0x80828082 ∷ []))
    (words (0xFFFF0014 ∷ 0xFFFF0014 ∷ 0xFFFF0014 ∷ 0xFFFF0014 ∷ 0xFFFF0014 ∷ 0xFFFF0014 ∷ 0xFFFF0014 ∷ 0xFFFF0016 ∷ []))

nothing : Bytes
nothing a = None

-- the index 7 is in x10
begin : State
begin = record { pc = 0x10000; registers = λ r. if r == 10 then 7 else 0; reservation = None }

abbrev next : List ℕ → State → State
next bytes state = state_after (step_of bytes state nothing) state

abbrev at_jump : List ℕ → State
at_jump bytes = next bytes (next bytes (next bytes (next bytes (next bytes (next bytes (next bytes begin))))))

run : IsTableRun file 0x1001C (at_jump file) nothing
unfolding file nothing begin u16_at u32_at u64_at section sections code_section_of data_section_of instruction rows upper_rows jump_rows branch_rows load_rows store_rows imm_rows imm_w_rows reg_rows reg_w_rows atomic_rows_of atomic_rows fence_rows system_rows expansion forms quadrant_0 quadrant_1 quadrant_2 shift_amount small_immediate lui_immediate addi16sp_immediate addi4spn_immediate word_offset double_offset lwsp_offset ldsp_offset swsp_offset sdsp_offset jump_offset branch_offset r_type i_type s_type b_type u_type j_type bound_test evens straight_run imm_result reg_result is_taken load_result read_at
run = record {
  has = record {
    start = 0x10000;
    test = record { at = 0x10004; index = 10; bound = Some 8 };
    comparison = record { index = 10; limit = 15; excludes_equal = false };
    section = refl;
    nearest = refl;
    compares = refl;
  };
  first = begin;
  second = next file begin;
  third = next file (next file begin);
  first_memory = nothing;
  second_memory = nothing;
  third_memory = nothing;
  begins = record { constant = pos 7; sets = refl; ends = refl };
  sets = refl;
  not_taken = record { kind = Bltu; rs1 = 15; rs2 = 10; offset = pos 0x24; branch = refl; passed = refl };
  passes = refl;
  comes =
      ComesTo.onward (not_equal 0x10008 0x1001C refl) refl
      (ComesTo.onward (not_equal 0x1000C 0x1001C refl) refl
      (ComesTo.onward (not_equal 0x10010 0x1001C refl) refl
      (ComesTo.onward (not_equal 0x10014 0x1001C refl) refl
      (ComesTo.onward (not_equal 0x10018 0x1001C refl) refl
      (ComesTo.there refl)))));
}

-- it goes on to the target of the eighth entry
lands : (next file (at_jump file)).pc ≡ 0x10024
unfolding file nothing begin u16_at u32_at u64_at section sections code_section_of data_section_of instruction rows upper_rows jump_rows branch_rows load_rows store_rows imm_rows imm_w_rows reg_rows reg_w_rows atomic_rows_of atomic_rows fence_rows system_rows expansion forms quadrant_0 quadrant_1 quadrant_2 shift_amount small_immediate lui_immediate addi16sp_immediate addi4spn_immediate word_offset double_offset lwsp_offset ldsp_offset swsp_offset sdsp_offset jump_offset branch_offset r_type i_type s_type b_type u_type j_type bound_test evens straight_run imm_result reg_result is_taken load_result read_at
lands = refl

short_run : IsTableRun short_file 0x10012 (at_jump short_file) nothing
unfolding short_file nothing begin u16_at u32_at u64_at section sections code_section_of data_section_of instruction rows upper_rows jump_rows branch_rows load_rows store_rows imm_rows imm_w_rows reg_rows reg_w_rows atomic_rows_of atomic_rows fence_rows system_rows expansion forms quadrant_0 quadrant_1 quadrant_2 shift_amount small_immediate lui_immediate addi16sp_immediate addi4spn_immediate word_offset double_offset lwsp_offset ldsp_offset swsp_offset sdsp_offset jump_offset branch_offset r_type i_type s_type b_type u_type j_type bound_test evens straight_run imm_result reg_result is_taken load_result read_at
short_run = record {
  has = record {
    start = 0x10000;
    test = record { at = 0x10002; index = 10; bound = Some 8 };
    comparison = record { index = 10; limit = 15; excludes_equal = false };
    section = refl;
    nearest = refl;
    compares = refl;
  };
  first = begin;
  second = next short_file begin;
  third = next short_file (next short_file begin);
  first_memory = nothing;
  second_memory = nothing;
  third_memory = nothing;
  begins = record { constant = pos 7; sets = refl; ends = refl };
  sets = refl;
  not_taken = record { kind = Bltu; rs1 = 15; rs2 = 10; offset = pos 0x14; branch = refl; passed = refl };
  passes = refl;
  comes =
      ComesTo.onward (not_equal 0x10006 0x10012 refl) refl
      (ComesTo.onward (not_equal 0x1000A 0x10012 refl) refl
      (ComesTo.onward (not_equal 0x1000C 0x10012 refl) refl
      (ComesTo.onward (not_equal 0x1000E 0x10012 refl) refl
      (ComesTo.onward (not_equal 0x10010 0x10012 refl) refl
      (ComesTo.there refl)))));
}

short_lands : (next short_file (at_jump short_file)).pc ≡ 0x10016
unfolding short_file nothing begin u16_at u32_at u64_at section sections code_section_of data_section_of instruction rows upper_rows jump_rows branch_rows load_rows store_rows imm_rows imm_w_rows reg_rows reg_w_rows atomic_rows_of atomic_rows fence_rows system_rows expansion forms quadrant_0 quadrant_1 quadrant_2 shift_amount small_immediate lui_immediate addi16sp_immediate addi4spn_immediate word_offset double_offset lwsp_offset ldsp_offset swsp_offset sdsp_offset jump_offset branch_offset r_type i_type s_type b_type u_type j_type bound_test evens straight_run imm_result reg_result is_taken load_result read_at
short_lands = refl
