-- The least of those that a fact holds of.
use Rattle.std.specs.Prelude.{◌≢◌, Option, Some, None}
use Rattle.std.specs.declared.cmp.Ordering.{Ordering}
use Rattle.std.specs.declared.cmp.Ordering.TheVariants.{Greater}
pub use Rattle.address_map.specs.Least.{IsLeast, IsAbove}

-- The same as for the least number, in an order of other things.
abbrev pub IsLeastBy : {K : Type 0} → (K → K → Ordering) → (K → Type 0) → Option K → Type 0
IsLeastBy {K} cmp P None = (x : K) → ¬ P x
IsLeastBy {K} cmp P (Some x) = P x × ((y : K) → P y → cmp x y ≢ Greater)
