-- The program of a test.
use Rattle.std.specs.Prelude.{ℕ, List, [], ◌∷◌, ◌++◌, None, true, false}
use Rattle.cfg_model.specs.declared.flow.Flow.TheVariants.{Straight, Return, Table, IndirectCall}
use Rattle.cfg_model.specs.Program.Instructions.{Instruction, InstructionMap}
use Rattle.cfg_model.proofs.Worked.Rows.{placed, plain, row_8_code}

-- A table jump to the first instruction of row 8.
abbrev pub table_jump : Instruction
table_jump = record { bytes = 4; flow = Table 1 true false; targets = 0x10000 ∷ [] }

-- A call through a register that does not come back, and whose landing pad is that instruction.
abbrev pub landing_call : Instruction
landing_call = record { bytes = 4; flow = IndirectCall None; targets = 0x10000 ∷ [] }

-- Row 8's code, and to which nothing leads, the table jump, the call, and two instructions in the last
-- shard.
abbrev pub row_23_code : List (ℕ × Instruction)
row_23_code =
    row_8_code
    ++ (0x20000, table_jump) ∷ (0x20004, landing_call) ∷ (0x10fc0, plain 2 (Straight 0x10fc2)) ∷ (0x10fc2, plain 2 Return) ∷ []

abbrev pub row_23 : InstructionMap
row_23 = placed row_23_code
