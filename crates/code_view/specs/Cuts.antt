-- Table cuts: of some jump tables fewer entries are kept than are there.
use Rattle.std.specs.Prelude.{◌≡◌, ℕ, ◌≤◌, List, Option, Some}
use Rattle.std.specs.Ordering.{nat_cmp}
use Rattle.std.specs.FinMap as map
use Rattle.jump_table.specs.declared.table.Table.{Table}
use Rattle.jump_table.specs.Table.{table_at}

-- How many entries are kept of a table, by the address of its jump.
abbrev pub Counts : Type 0
Counts = map.FinMap nat_cmp ℕ

-- The cut of the jump at j.
abbrev pub cut_of : Counts → ℕ → Option ℕ
cut_of cuts j = map.get cuts j

-- This many entries can be kept of the table of the jump at j: it has a table with at least this
-- many entries, and one is kept at least.
pub record CanBeKept (bytes : List ℕ) (j count : ℕ) : Type 0 where
  pub table : Table
  pub at_jump : table_at bytes j ≡ Some table
  pub some : 1 ≤ count
  pub within : count ≤ table.count

-- Each cut is one of a table of the file.
abbrev pub CutsFit : List ℕ → (ℕ → Option ℕ) → Type 0
CutsFit bytes cuts = (j count : ℕ) → cuts j ≡ Some count → CanBeKept bytes j count
