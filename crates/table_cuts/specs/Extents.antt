-- Where the jump tables of a file lie.
use Rattle.std.specs.Prelude.{List, ℕ}
use Rattle.std.specs.Option.{option_map}
use Rattle.jump_table.specs.declared.table.Table.{Table}
use Rattle.jump_table.specs.Table.{table_at}
use Rattle.cfg_model.specs.Program.Cuts.{Extent, Tables}

-- Where a jump table lies.
abbrev pub extent_of : Table → Extent
extent_of table = record { base = table.base; width = table.width; count = table.count }

-- Where the table of the jump at j lies, if it has one.
abbrev pub extent_at : List ℕ → Tables
extent_at bytes j = option_map extent_of (table_at bytes j)
