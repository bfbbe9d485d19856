-- Seeds of equal addresses, merged. No public clause names what stands here.
use Rattle.std.specs.Prelude.{◌≡◌, ◌≢◌, ℕ, ◌≤◌, List, [], ◌∷◌, ◌++◌, IfSome, ◌↔◌}
use Rattle.std.specs.List.{All, Contains}
use Rattle.std.specs.List.Sorted.{IsStrictlyIncreasing}
use Rattle.std.specs.Option.{option_map}
use Rattle.elf_image.specs.ReadOnly.{span_bytes}
use Rattle.elf_symbols.specs.declared.seed.Seed.{Seed}
use Rattle.elf_symbols.specs.Seeds.{addresses_of, name_in, LiesIn}
use Rattle.elf_symbols.specs.Inner.Names.{IsLeastName}

-- the seeds ms are those of xs: each address once, rising, with the least name at it
pub record AreMerged (bytes : List ℕ) (xs ms : List Seed) : Type 0 where
  pub rising : IsStrictlyIncreasing (addresses_of ms)
  pub same : (a : ℕ) → Contains (addresses_of ms) a ↔ Contains (addresses_of xs) a
  pub names : (a : ℕ)
      → IsLeastName bytes (Contains xs) a (option_map (span_bytes bytes) (name_in ms a))
  pub lie : All (λ s. IfSome s.name (LiesIn bytes)) ms

-- the last of some seeds, if there is one, does not stand at the address
abbrev pub EndsElsewhere : List Seed → ℕ → Type 0
EndsElsewhere ms a = (rest : List Seed) (last : Seed) → ms ≡ rest ++ last ∷ [] → last.address ≢ a

-- whatever seeds of lower or equal addresses were merged, one more of them is
abbrev pub AddsSeed : List ℕ → Seed → List Seed → List Seed → Type 0
AddsSeed bytes s old new =
    (xs : List Seed)
    → AreMerged bytes xs old
    → All (λ t. t.address ≤ s.address) xs
    → AreMerged bytes (xs ++ s ∷ []) new
