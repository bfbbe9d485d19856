-- A run of the machine through the bound test of a jump table, and on to its jump.
use Rattle.std.specs.Prelude.{◌≡◌, ℕ, ◌+◌, List, ℤ, Some, false}
use Rattle.std.specs.Option.{option_and_then}
use Rattle.elf_image.specs.Code.{section_start}
use Rattle.rv_decode.specs.declared.instructions.Insn.TheVariants.{Imm, Branch}
use Rattle.rv_decode.specs.declared.instructions.ImmKind.TheVariants.{Addi}
use Rattle.rv_decode.specs.declared.instructions.BranchKind.{BranchKind}
use Rattle.rv_operations.specs.Operations.{is_taken}
use Rattle.rv_flow.specs.Placed.{placed_at}
use Rattle.jump_table.specs.declared.bound.Comparison.{Comparison}
use Rattle.jump_table.specs.declared.bound.BoundTest.{BoundTest}
use Rattle.jump_table.specs.Section.{whole_insn_at}
use Rattle.jump_table.specs.Bound.{bound_test, comparison_of}
use Rattle.rv_machine.specs.State.{State}
use Rattle.rv_machine.specs.Registers.{held}
use Rattle.rv_machine.specs.Memory.{Bytes}
use Rattle.edge_cover.specs.Runs.{StepsTo, ComesTo}

-- The bound test of the jump at j, and its comparison. Both are read in the code section of the jump,
-- which begins at `start`.
pub record HasTest (bytes : List ℕ) (j : ℕ) : Type 0 where
  pub start : ℕ
  pub test : BoundTest
  pub comparison : Comparison
  pub section : section_start bytes j ≡ Some start
  pub nearest : bound_test bytes start j ≡ Some test
  pub compares : option_and_then comparison_of (whole_insn_at bytes start test.at) ≡ Some comparison

-- The instruction at a is `addi r, x0, constant`, in 32 or 16 bits, and the next one is at b.
pub record SetsBefore (bytes : List ℕ) (r b a : ℕ) : Type 0 where
  pub constant : ℤ
  pub sets : (placed_at bytes a).insn ≡ Some (Imm Addi r 0 constant)
  pub ends : a + (placed_at bytes a).length ≡ b

-- The instruction at the program counter is a branch, and it is not taken.
pub record IsNotTaken (bytes : List ℕ) (state : State) : Type 0 where
  pub kind : BranchKind
  pub rs1 : ℕ
  pub rs2 : ℕ
  pub offset : ℤ
  pub branch : (placed_at bytes state.pc).insn ≡ Some (Branch kind rs1 rs2 offset)
  pub passed : is_taken kind (held state.registers rs1) (held state.registers rs2) ≡ false

-- A run that begins at the instruction just before the comparison, which sets the limit, goes through
-- the comparison not taken, and comes to the jump at j in this state and memory.
pub record IsTableRun (bytes : List ℕ) (j : ℕ) (state : State) (memory : Bytes) : Type 0 where
  pub has : HasTest bytes j
  pub first : State
  pub second : State
  pub third : State
  pub first_memory : Bytes
  pub second_memory : Bytes
  pub third_memory : Bytes
  pub begins : SetsBefore bytes has.comparison.limit has.test.at first.pc
  pub sets : StepsTo bytes first first_memory second second_memory
  pub not_taken : IsNotTaken bytes second
  pub passes : StepsTo bytes second second_memory third third_memory
  pub comes : ComesTo bytes j third third_memory state memory
