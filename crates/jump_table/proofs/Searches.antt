-- Where the searches back from a jump begin.
use Rattle.std.proofs.Common.{◌≡◌, ℕ, List, refl}
use Rattle.jump_table.specs.Bound.{test_at, bound_test}
use Rattle.jump_table.specs.Pair.{upper_at, upper_before, pair_at, pair_before, pair_near, spill_at, spilled_before}
use Rattle.jump_table.specs.Table.{place_from, open_place, table_from, hoisted_table}
use Rattle.jump_table.proofs.Nearest.{nearest_from}

module _ (bytes : List ℕ) (start j : ℕ) where
  pub all-tests : bound_test bytes start j ≡ nearest_from (test_at bytes start j) start j 4 33
  unfolding bound_test nearest_from
  all-tests = refl

  pub all-places : (r : ℕ) → open_place bytes start j r ≡ nearest_from (place_from bytes start j r) start j 4 31
  unfolding open_place nearest_from
  all-places r = refl

  pub all-tables : (r : ℕ) → hoisted_table bytes start j r ≡ nearest_from (table_from bytes start j r) start j 4 31
  unfolding hoisted_table nearest_from
  all-tables r = refl

  -- and back from a run, or from a part of a pair

  pub all-uppers : (x : ℕ) → upper_before bytes start j x ≡ nearest_from (upper_at bytes start j x) start j 2 32
  unfolding upper_before nearest_from
  all-uppers x = refl

  pub all-pairs : (r : ℕ) → pair_before bytes start j r ≡ nearest_from (pair_at bytes start r) start j 4 2047
  unfolding pair_before nearest_from
  all-pairs r = refl

  pub all-near : (x : ℕ) → pair_near bytes start j x ≡ nearest_from (pair_at bytes start x) start j 4 31
  unfolding pair_near nearest_from
  all-near x = refl

  pub all-spills : (n : ℕ) → spilled_before bytes start j n ≡ nearest_from (spill_at bytes start j n) start j 2 2048
  unfolding spilled_before nearest_from
  all-spills n = refl
