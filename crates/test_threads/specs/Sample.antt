-- A program for tests: a return, a jump through a table to it, and a call that lands at it, in three
-- shards.
use Rattle.std.specs.Prelude.{ℕ, ◌==◌, if◌then◌else◌, List, [], ◌∷◌, Some, None}
use Rattle.std.specs.Prelude.{true, false}
use Rattle.cfg_model.specs.declared.flow.Flow.TheVariants.{Return, Table, IndirectCall}
use Rattle.cfg_model.specs.Program.Instructions.{InstructionMap}

-- A return at C0, at 140 a jump through a table whose one entry leads there, and at 1C0 a call through
-- a register that does not come back and whose landing pad is there.
abbrev pub return_and_table : InstructionMap
return_and_table a =
    if a == 0xC0 then Some record { bytes = 4; flow = Return; targets = [] }
    else if a == 0x140
    then Some record { bytes = 4; flow = Table 1 true false; targets = 0xC0 ∷ [] }
    else if a == 0x1C0
    then Some record { bytes = 4; flow = IndirectCall None; targets = 0xC0 ∷ [] } else None

-- The return and the jump are seeds.
abbrev pub two_seeds : List ℕ
two_seeds = 0xC0 ∷ 0x140 ∷ []
