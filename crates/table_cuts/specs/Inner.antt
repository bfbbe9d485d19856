-- Words that no public clause cites: the bases of the tables of some jumps, and how they cut a table.
use Rattle.std.specs.Prelude.{◌≡◌, ℕ, ◌+◌, ◌*◌, ◌<◌, ◌≤◌, List, Contains, Option, Some}
use Rattle.std.specs.Option.{MatchOption}
use Rattle.jump_table.specs.declared.table.Table.{Table}
use Rattle.jump_table.specs.Table.{table_at}
use Rattle.cfg_model.specs.Program.Cuts.{Extent, kept_before}

-- b is the base of the table of one of the jumps.
pub record IsBaseOf (bytes jumps : List ℕ) (b : ℕ) : Type 0 where
  pub jump : ℕ
  pub counts : Contains jumps jump
  pub table : Table
  pub at_jump : table_at bytes jump ≡ Some table
  pub base : table.base ≡ b

-- These are the bases of the tables of the jumps.
pub record AreBases (bytes jumps bases : List ℕ) : Type 0 where
  pub sound : (b : ℕ) → Contains bases b → IsBaseOf bytes jumps b
  pub complete : (b : ℕ) → IsBaseOf bytes jumps b → Contains bases b

-- b lies strictly inside a table.
pub record IsInside (table : Extent) (b : ℕ) : Type 0 where
  pub above : table.base < b
  pub below : b < table.base + table.width * table.count

-- A table is cut to this many entries, fewer than it has: up to the least of the bases inside it.
pub record IsCutBy (bases : List ℕ) (table : Extent) (kept : ℕ) : Type 0 where
  pub base : ℕ
  pub there : Contains bases base
  pub inside : IsInside table base
  pub least : (b : ℕ) → Contains bases b → IsInside table b → base ≤ b
  pub entries : kept ≡ kept_before table base
  pub fewer : kept < table.count

-- How many entries are kept of a table, if the bases cut it.
abbrev pub CutBy : List ℕ → Extent → Option ℕ → Type 0
CutBy bases table o =
    MatchOption o ((kept : ℕ) → ¬ IsCutBy bases table kept) (IsCutBy bases table)
