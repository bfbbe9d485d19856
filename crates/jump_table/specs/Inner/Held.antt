-- Registers in a list.
use Rattle.std.specs.Prelude.{◌==◌, List, if◌then◌else◌, slice_get, unwrap_or}
use Rattle.jump_table.specs.declared.values.Value.{Value}
use Rattle.jump_table.specs.declared.values.Value.TheVariants.{Unknown, Const}
use Rattle.jump_table.specs.Values.{Registers}

-- What the registers of a list hold. Registers past its end are unknown, and x0 always holds 0.
abbrev pub held_by : List Value → Registers
held_by values r = if r == 0 then Const 0 else unwrap_or (slice_get values r) Unknown
