-- What the entries of a map are read as.
use Rattle.std.specs.Prelude.{◌≡◌, ◌↔◌, ◌⊎◌, ℕ, List, Contains}
use Rattle.std.specs.Ordering.{nat_cmp}
use Rattle.std.specs.FinMap as maps
use Rattle.address_map.specs.Found.{IsFoundAmong}

-- An entry of the map is read as this item.
abbrev pub IsRead : {X A : Type 0} → (ℕ → X → A) → maps.FinMap nat_cmp X → A → Type 0
IsRead read m item = IsFoundAmong (λ key entry it. read key entry ≡ it) m item

-- What the entries of the map are read as was added to a list, and nothing else.
abbrev pub IsReadInto : {X A : Type 0} → (ℕ → X → A) → maps.FinMap nat_cmp X → List A → List A
    → Type 0
IsReadInto {X} {A} read m old new = (item : A) → Contains new item
    ↔ (Contains old item ⊎ IsRead read m item)
