-- The program that a file's code is.
use Rattle.std.specs.Prelude.{ℕ, ◌+◌, List, Option, Some, None, if◌then◌else◌}
use Rattle.elf_image.specs.Code.{is_code}
use Rattle.rv_flow.specs.Placed.{placed_at}
use Rattle.rv_flow.specs.Raw.{raw_flow_at}
use Rattle.jump_table.specs.declared.table.Table.{Table}
use Rattle.jump_table.specs.Table.{table_at}
use Rattle.cfg_model.specs.Program.Instructions.{Instruction, InstructionMap}
use Rattle.code_view.specs.Flow.{flow_by, kept_by}

-- The instruction at a code address, with the tables and the cuts that count, by address of the
-- jump.
unfoldable pub instruction_at : List ℕ → (ℕ → Option Table) → (ℕ → Option ℕ) → ℕ → Instruction
instruction_at bytes tables cuts a = record {
  bytes = (placed_at bytes a).length;
  flow = flow_by bytes (a + (placed_at bytes a).length) (cuts a) (tables a) (raw_flow_at bytes a);
  targets = kept_by bytes (a + (placed_at bytes a).length) (cuts a) (tables a) (raw_flow_at bytes a);
}

-- The instructions of a file, one at each code address.
abbrev pub program_with : List ℕ → (ℕ → Option Table) → (ℕ → Option ℕ) → InstructionMap
program_with bytes tables cuts a =
    if is_code bytes a then Some (instruction_at bytes tables cuts a) else None

-- The program of a file under table cuts.
abbrev pub program_under : List ℕ → (ℕ → Option ℕ) → InstructionMap
program_under bytes cuts = program_with bytes (table_at bytes) cuts
