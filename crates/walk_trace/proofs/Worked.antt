-- Traces of small files, by computation: row 37 of the worked rows.
use Rattle.std.proofs.Common.{◌≡◌, ℕ, ◌+◌, ◌/◌, ◌%◌, List, [], ◌∷◌, ◌++◌, codes, length, None, refl}
use Rattle.std.specs.List.{flat_map}
use Rattle.elf_image.specs.Number.{u16_at, u32_at, u64_at}
use Rattle.elf_image.specs.Sections.{section, sections}
use Rattle.elf_image.specs.Code.{code_section_of}
use Rattle.rv_decode.specs.Table.{instruction, rows, upper_rows, jump_rows, branch_rows, load_rows, store_rows, imm_rows, imm_w_rows, reg_rows, reg_w_rows, atomic_rows_of, atomic_rows, fence_rows, system_rows}
use Rattle.rv_operations.specs.Operations.{imm_result, is_taken}
use Rattle.rv_machine.specs.Memory.{Bytes}
use Rattle.cfg_model.specs.declared.graph.Block.{Block}
use Rattle.cfg_model.specs.declared.graph.Edge.{Edge}
use Rattle.cfg_model.specs.declared.graph.EndKind.TheVariants as ends
use Rattle.cfg_model.specs.declared.graph.EdgeKind.TheVariants as kinds
use Rattle.graph_report.specs.Number.{hex_digits}
use Rattle.walk_trace.specs.Trace.{trace_of}

-- the four bytes of a word, and the words of a list, little-endian
abbrev word : ℕ → List ℕ
word w = w % 256 ∷ w / 256 % 256 ∷ w / 65536 % 256 ∷ w / 16777216 % 256 ∷ []

abbrev words : List ℕ → List ℕ
words ws = flat_map word ws

-- a number below 2 to the power 32 in the eight bytes of a field
abbrev wide : ℕ → List ℕ
wide n = word n ++ word 0

-- a section header: type, flags, address, offset, size
abbrev section_entry : ℕ → ℕ → ℕ → ℕ → ℕ → List ℕ
section_entry kind flags address offset size =
    word 0 ++ word kind ++ wide flags ++ wide address ++ wide offset ++ wide size ++ word 0 ++ word 0 ++ wide 0 ++ wide 0

-- a file of code at 10000 (hexadecimal), where it starts
abbrev file_of : List ℕ → List ℕ
file_of code =
    (0x7F ∷ 0x45 ∷ 0x4C ∷ 0x46 ∷ 2 ∷ 1 ∷ 1 ∷ 0 ∷ []) ++ wide 0
    ++ (2 ∷ 0 ∷ 243 ∷ 0 ∷ []) ++ word 1 ++ wide 0x10000 ++ wide 0 ++ wide (64 + length code)
    ++ word 0 ++ (64 ∷ 0 ∷ 0 ∷ 0 ∷ 0 ∷ 0 ∷ 64 ∷ 0 ∷ 2 ∷ 0 ∷ 0 ∷ 0 ∷ [])
    ++ code
    ++ section_entry 0 0 0 0 0
    ++ section_entry 1 6 0x10000 64 (length code)

-- no bytes of memory: no instruction here reads or writes any
abbrev no_bytes : Bytes
no_bytes a = None

-- ---- a return, in one block

one_return : List ℕ
one_return = file_of (words (0x00008067 ∷ 0 ∷ []))

abbrev return_block : Block
return_block = record { start = 0x10000; end = 0x10004; kind = ends.Return }

leaves_by_return : trace_of one_return (return_block ∷ []) [] no_bytes 10 ≡ codes "at 0000000000010000\nout return\nend left\n"
unfolding one_return u16_at u32_at u64_at section sections code_section_of instruction rows upper_rows jump_rows branch_rows load_rows store_rows imm_rows imm_w_rows reg_rows reg_w_rows atomic_rows_of atomic_rows fence_rows system_rows hex_digits
leaves_by_return = refl

-- the last step that is allowed ends the walk: its end counts, and not the number of steps
ends_at_last_step : trace_of one_return (return_block ∷ []) [] no_bytes 1 ≡ codes "at 0000000000010000\nout return\nend left\n"
unfolding one_return u16_at u32_at u64_at section sections code_section_of instruction rows upper_rows jump_rows branch_rows load_rows store_rows imm_rows imm_w_rows reg_rows reg_w_rows atomic_rows_of atomic_rows fence_rows system_rows hex_digits
ends_at_last_step = refl

-- ---- a branch back into its own block

loop_back : List ℕ
loop_back = file_of (words (0x00000013 ∷ 0xFFF50513 ∷ 0xFE051EE3 ∷ 0x00008067 ∷ []))

abbrev loop_blocks : List Block
loop_blocks =
    record { start = 0x10000; end = 0x10004; kind = ends.Fall }
    ∷ record { start = 0x10004; end = 0x1000C; kind = ends.Branch }
    ∷ record { start = 0x1000C; end = 0x10010; kind = ends.Return } ∷ []

abbrev loop_edges : List Edge
loop_edges =
    record { from = 0x10000; to = 0x10004; kind = kinds.Fall }
    ∷ record { from = 0x10004; to = 0x10004; kind = kinds.Taken }
    ∷ record { from = 0x10004; to = 0x1000C; kind = kinds.Fall } ∷ []

goes_round : trace_of loop_back loop_blocks loop_edges no_bytes 5
    ≡ codes "at 0000000000010000\nat 0000000000010004\nat 0000000000010004\nat 0000000000010004\nend steps\n"
unfolding loop_back u16_at u32_at u64_at section sections code_section_of instruction rows upper_rows jump_rows branch_rows load_rows store_rows imm_rows imm_w_rows reg_rows reg_w_rows atomic_rows_of atomic_rows fence_rows system_rows imm_result is_taken hex_digits
goes_round = refl

-- ---- an ECALL

one_ecall : List ℕ
one_ecall = file_of (words (0x00000073 ∷ 0 ∷ []))

traps_at_ecall : trace_of one_ecall (record { start = 0x10000; end = 0x10004; kind = ends.Stop } ∷ []) [] no_bytes 10
    ≡ codes "at 0000000000010000\nend trap Ecall\n"
unfolding one_ecall u16_at u32_at u64_at section sections code_section_of instruction rows upper_rows jump_rows branch_rows load_rows store_rows imm_rows imm_w_rows reg_rows reg_w_rows atomic_rows_of atomic_rows fence_rows system_rows hex_digits
traps_at_ecall = refl
