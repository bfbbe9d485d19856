-- Jumps through tables, with these tables.
use Rattle.std.specs.Prelude.{◌≡◌, ℕ, List, map, All, Contains, Some}
use Rattle.jump_table.specs.declared.table.Table.{Table}
use Rattle.jump_table.specs.Table.{table_at}
use Rattle.code_view.specs.declared.table_jump.TableJump.{TableJump}

-- The instruction at j is a jump that has a table.
pub record HasTable (bytes : List ℕ) (j : ℕ) : Type 0 where
  pub table : Table
  pub at_jump : table_at bytes j ≡ Some table

-- The addresses of jumps that were found.
abbrev pub addresses_of : List TableJump → List ℕ
addresses_of jumps = map (λ (f : TableJump). f.jump) jumps

-- Each jump has the table that was found with it.
abbrev pub AreTablesOf : List ℕ → List TableJump → Type 0
AreTablesOf bytes jumps = All (λ (f : TableJump). table_at bytes f.jump ≡ Some f.table) jumps

-- These are all jumps of a file that have a table, reached or not.
pub record AreAllTables (bytes : List ℕ) (jumps : List TableJump) : Type 0 where
  pub tables : AreTablesOf bytes jumps
  pub all_jumps : (j : ℕ) → HasTable bytes j → Contains (addresses_of jumps) j
