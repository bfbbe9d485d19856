-- Jumps that have a table, by where it lies.
use Rattle.std.proofs.Common.{◌≡◌, ℕ, List, Option, Some, None, refl}
use Rattle.std.specs.Option.{option_map}
use Rattle.std.proofs.lemmas.Option.{none-some}
use Rattle.jump_table.specs.declared.table.Table.{Table}
use Rattle.jump_table.specs.Table.{table_at}
use Rattle.cfg_model.specs.Program.Cuts.{Extent}
use Rattle.table_cuts.specs.Extents.{extent_of, extent_at}
use Rattle.code_view.specs.Tables.{HasTable}

table-some : (bytes : List ℕ) (j : ℕ) (o : Option Table) → table_at bytes j ≡ o → (extent : Extent) → option_map extent_of o ≡ Some extent → HasTable bytes j
table-some bytes j None at extent is = absurd (none-some extent is)
table-some bytes j (Some table) at extent is = record { table = table; at_jump = at }

pub has-table : (bytes : List ℕ) (j : ℕ) (extent : Extent) → extent_at bytes j ≡ Some extent → HasTable bytes j
has-table bytes j extent is = table-some bytes j (table_at bytes j) refl extent is
