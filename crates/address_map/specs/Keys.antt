-- The addresses of a map: one that is added, and the next one after an address.
use Rattle.std.specs.Prelude.{◌≡◌, ◌<◌, ◌/◌, ℕ, Option, IsSome, if◌then◌else◌}
use Rattle.std.specs.Ordering.{nat_cmp}
use Rattle.std.specs.FinMap as maps
use Rattle.address_map.specs.Least.{IsAbove}

-- The map with v at k, if k is not there.
abbrev pub with_new : {X : Type 0} → maps.FinMap nat_cmp X → ℕ → X → maps.FinMap nat_cmp X
with_new m k v = if maps.contains_key m k then m else maps.insert m k v

-- x is an address of the map above a, if there is an a.
abbrev pub IsKeyAbove : {X : Type 0} → maps.FinMap nat_cmp X → Option ℕ → ℕ → Type 0
IsKeyAbove m a x = IsSome (maps.get m x) × IsAbove a x

-- x is an address of the map above a, in the page of 4096 bytes that a lies in.
abbrev pub IsNextInPage : {X : Type 0} → maps.FinMap nat_cmp X → ℕ → ℕ → Type 0
IsNextInPage m a x = IsSome (maps.get m x) × (a < x) × (x / 4096 ≡ a / 4096)
