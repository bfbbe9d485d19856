-- The bound test before a jump table (this project's profile).
use Rattle.std.specs.Prelude.{ℕ, ◌+◌, ◌-◌, ◌==◌, ◌&&◌, not, nat_le, is_some, Bool, true, false}
use Rattle.std.specs.Prelude.{List, zero, suc, ℤ, pos, negsuc, Option, Some, None, if◌then◌else◌}
use Rattle.std.specs.Option.{option_map, option_and_then}
use Rattle.elf_image.specs.Code.{half_at}
use Rattle.rv_decode.specs.declared.instructions.Insn.{Insn}
use Rattle.rv_decode.specs.declared.instructions.Insn.TheVariants as insns
use Rattle.rv_decode.specs.declared.instructions.BranchKind.{BranchKind}
use Rattle.rv_decode.specs.declared.instructions.BranchKind.TheVariants as branches
use Rattle.rv_decode.specs.declared.instructions.ImmKind.{ImmKind}
use Rattle.rv_decode.specs.declared.instructions.ImmKind.TheVariants as imms
use Rattle.rv_decode.specs.Table.{instruction}
use Rattle.rvc_expand.specs.Table.{expansion}
use Rattle.jump_table.specs.declared.bound.Comparison.{Comparison}
use Rattle.jump_table.specs.declared.bound.BoundTest.{BoundTest}
use Rattle.jump_table.specs.Nearest.{evens, nearest}
use Rattle.jump_table.specs.Section.{is_in_section, whole_insn_at, straight_run}

-- The two registers differ, and neither is x0.
abbrev pub checked : Comparison → Option Comparison
checked c =
    if not (c.index == c.limit) && not (c.index == 0) && not (c.limit == 0) then Some c else None

abbrev pub comparison_by : BranchKind → ℕ → ℕ → Option Comparison
comparison_by branches.Bltu rs1 rs2 =
    checked (record { index = rs2; limit = rs1; excludes_equal = false })
comparison_by branches.Bgeu rs1 rs2 =
    checked (record { index = rs1; limit = rs2; excludes_equal = true })
comparison_by _ rs1 rs2 = None

abbrev pub comparison_of : Insn → Option Comparison
comparison_of (insns.Branch kind rs1 rs2 offset) = comparison_by kind rs1 rs2
comparison_of _ = None

-- The constant that `addi r, x0, imm` sets register r to.
abbrev pub addi_constant : ℕ → ImmKind → ℕ → ℕ → ℤ → Option ℤ
addi_constant r imms.Addi rd rs1 imm = if (rd == r) && (rs1 == 0) then Some imm else None
addi_constant r _ rd rs1 imm = None

abbrev pub constant_of : ℕ → Insn → Option ℤ
constant_of r (insns.Imm kind rd rs1 imm) = addi_constant r kind rd rs1 imm
constant_of r _ = None

-- The constant that the 16-bit instruction at a sets r to, within the section.
abbrev pub short_constant : List ℕ → ℕ → ℕ → ℕ → Option ℤ
short_constant bytes start a r =
    if is_in_section bytes start a
    then option_and_then (constant_of r)
    (option_and_then instruction (option_and_then expansion (half_at bytes a)))
    else None

-- The constant that the 32-bit instruction at a sets r to, within the section.
abbrev pub whole_constant : List ℕ → ℕ → ℕ → ℕ → Option ℤ
whole_constant bytes start a r = option_and_then (constant_of r) (whole_insn_at bytes start a)

-- The first that is there.
abbrev pub first_of_two : Option ℤ → Option ℤ → Option ℤ
first_of_two None second = second
first_of_two (Some n) second = Some n

-- The constant that the instruction just before b sets r to: the 16-bit one two bytes before it,
-- else the 32-bit one four bytes before it.
abbrev pub constant_before : List ℕ → ℕ → ℕ → ℕ → Option ℤ
constant_before bytes start b r =
    first_of_two
    (if nat_le (start + 2) b then short_constant bytes start (b - 2) r else None)
    (if nat_le (start + 4) b then whole_constant bytes start (b - 4) r else None)

-- How many values of the index pass, if the limit is good: up to the limit, or below it.
abbrev pub bound_by : Bool → ℤ → Option ℕ
bound_by false (pos n) = Some (n + 1)
bound_by true (pos zero) = None
bound_by true (pos (suc n)) = Some (suc n)
bound_by _ (negsuc n) = None

-- The straight run from after b to the jump at j has at most 16 instructions.
abbrev pub run_behind : List ℕ → ℕ → ℕ → ℕ → Option (List ℕ)
run_behind bytes start j b = straight_run bytes start j 16 (b + 4)

abbrev pub test_by : List ℕ → ℕ → ℕ → ℕ → Comparison → Option BoundTest
test_by bytes start j b c =
    if is_some (run_behind bytes start j b)
    then option_map
    (λ limit. record { at = b; index = c.index; bound = bound_by c.excludes_equal limit })
    (constant_before bytes start b c.limit)
    else None

-- The bound test at b for the jump at j, if there is one: a comparison, a constant set just before
-- it, and a straight run from after it to the jump.
abbrev pub test_at : List ℕ → ℕ → ℕ → ℕ → Option BoundTest
test_at bytes start j b =
    option_and_then (test_by bytes start j b)
    (option_and_then comparison_of (whole_insn_at bytes start b))

-- The bound test of the jump at j: the one nearest to it, 4 to 68 bytes before. No other is tried.
unfoldable pub bound_test : List ℕ → ℕ → ℕ → Option BoundTest
bound_test bytes start j = nearest (test_at bytes start j) start j (evens 4 33)
