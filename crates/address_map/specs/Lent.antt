-- What becomes of a map once a value that it lent is given back: its address has the last value
-- written through the reference.
use Rattle.std.specs.Prelude.{ℕ}
use Rattle.std.specs.Ordering.{nat_cmp}
use Rattle.std.specs.FinMap as maps
use Rattle.std.specs.Borrow.{Lends, Fml, RattleType, MutBor}
use Rattle.address_map.specs.contracts.map.AddressMap as whole

module _ (T : RattleType) (s : MutBor (maps.FinMap nat_cmp T.Denot)) (k : ℕ)
    (r : MutBor T.Denot) where
  abbrev pub lends_of_map : Fml
  lends_of_map = Lends (whole.the_row T) T s r (maps.insert s.now k)
