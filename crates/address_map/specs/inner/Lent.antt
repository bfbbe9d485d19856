-- What becomes of the layers of a map once a value that they lent is given back: its key
-- has the last value written through the reference.
use Rattle.std.specs.Prelude.{ℕ}
use Rattle.std.specs.Ordering.{nat_cmp}
use Rattle.std.specs.FinMap as maps
use Rattle.std.specs.Borrow.{Lends, Fml, RattleType, MutBor}
use Rattle.address_map.specs.contracts.chunk.Chunk as chunk
use Rattle.address_map.specs.contracts.region.Region as region
use Rattle.address_map.specs.contracts.scattered.Scattered as scattered

module _ (T : RattleType) (s : MutBor (maps.FinMap nat_cmp T.Denot)) (k : ℕ)
    (r : MutBor T.Denot) where
  abbrev pub lends_of_chunk : Fml
  lends_of_chunk = Lends (chunk.the_row T) T s r (maps.insert s.now k)

  abbrev pub lends_of_region : Fml
  lends_of_region = Lends (region.the_row T) T s r (maps.insert s.now k)

  abbrev pub lends_of_scattered : Fml
  lends_of_scattered = Lends (scattered.the_row T) T s r (maps.insert s.now k)
