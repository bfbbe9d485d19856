-- Table cuts: how many entries of a jump table are kept where another jump table begins inside it.
use Rattle.std.specs.Prelude.{◌≡◌, ◌↔◌, ℕ, ◌+◌, ◌-◌, ◌*◌, ◌/◌, ◌<◌, ◌≤◌, max, Option, Some}

-- Where a jump table lies: its base, the width of its entries in bytes, and their number.
pub record Extent : Type 0 where
  pub base : ℕ
  pub width : ℕ
  pub count : ℕ

-- The jump tables, by the address of their jump.
abbrev pub Tables : Type 0
Tables = ℕ → Option Extent

-- b is the base of the jump table of some jump, reached or not, strictly inside this one.
pub record IsBaseInside (tables : Tables) (table : Extent) (b : ℕ) : Type 0 where
  pub jump : ℕ
  pub other : Extent
  pub at_jump : tables jump ≡ Some other
  pub base : other.base ≡ b
  pub above : table.base < b
  pub below : b < table.base + table.width * table.count

-- How many whole entries of a table lie before this address inside it; the first always counts.
abbrev pub kept_before : Extent → ℕ → ℕ
kept_before table b = max 1 ((b - table.base) / table.width)

-- The jump table of j is cut to this many entries, fewer than it has: up to the least base of
-- another one inside it. All jumps that have a table count, reached or not (this project's profile).
pub record IsCutTo (tables : Tables) (j kept : ℕ) : Type 0 where
  pub table : Extent
  pub at_jump : tables j ≡ Some table
  pub base : ℕ
  pub inside : IsBaseInside tables table base
  pub least : (b : ℕ) → IsBaseInside tables table b → base ≤ b
  pub entries : kept ≡ kept_before table base
  pub fewer : kept < table.count

-- These are the cuts of the jump tables: for each jump the number of entries kept, if it is cut.
abbrev pub AreCuts : Tables → (ℕ → Option ℕ) → Type 0
AreCuts tables cuts = (j kept : ℕ) → (cuts j ≡ Some kept) ↔ IsCutTo tables j kept

-- The cuts of jump tables are determined.
abbrev pub CutsAreUnique : Type 0
CutsAreUnique =
    (tables : Tables) (cuts others : ℕ → Option ℕ) → AreCuts tables cuts → AreCuts tables others
    → cuts ≡ others
