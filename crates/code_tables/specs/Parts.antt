-- Words that no public clause cites: the jump tables in one range of addresses, and those among some
-- places.
use Rattle.std.specs.Prelude.{◌≡◌, ℕ, ◌+◌, ◌≤◌, List, length, slice_index_or, Contains, IfOk}
use Rattle.parallel.specs.declared.ranges.AddressRange.{AddressRange}
use Rattle.parallel.specs.Ranges.{IsIn}
use Rattle.parallel.specs.Gaps.{gap}
use Rattle.parallel.specs.Lists.{Answered}
use Rattle.code_view.specs.declared.table_jump.TableJump.{TableJump}
use Rattle.code_view.specs.Tables.{HasTable, AreTablesOf, addresses_of}

-- These are jumps with their tables, among them each of these places that has a table.
pub record AreTablesAmong (bytes places : List ℕ) (jumps : List TableJump) : Type 0 where
  pub tables : AreTablesOf bytes jumps
  pub complete : (j : ℕ) → Contains places j → HasTable bytes j → Contains (addresses_of jumps) j

-- These are jumps with their tables, among them each of a range that has a table.
pub record AreTablesIn (bytes : List ℕ) (range : AddressRange) (jumps : List TableJump) : Type 0 where
  pub tables : AreTablesOf bytes jumps
  pub complete : (j : ℕ) → IsIn range j → HasTable bytes j → Contains (addresses_of jumps) j

-- Each gap between bounds has an answer: its tables, if they were found.
pub record AreTablesByGap (bytes bounds : List ℕ) (answers : List (Answered TableJump)) : Type 0 where
  pub as_many : length answers ≡ length bounds + 1
  pub each : (i : ℕ) (d : Answered TableJump) → i ≤ length bounds
      → IfOk (slice_index_or answers i d)
      (λ jumps. AreTablesIn bytes (gap bounds i) jumps.items)
