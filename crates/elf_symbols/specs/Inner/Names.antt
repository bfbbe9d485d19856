-- The least of some names. No public clause names what stands here.
use Rattle.std.specs.Prelude.{◌≡◌, ℕ, false, List, IfSome}
use Rattle.std.specs.Option.{option_map}
use Rattle.std.specs.declared.option.Option.{Option}
use Rattle.std.specs.declared.option.Option.TheVariants.{None, Some}
use Rattle.std.specs.Ordering.{nat_cmp, is_lt}
use Rattle.std.specs.Cmp.Lexicographic.{slice_cmp}
use Rattle.elf_image.specs.ReadOnly.{span_bytes}
use Rattle.elf_image.specs.Seeds.{lesser}
use Rattle.elf_symbols.specs.declared.seed.Seed.{Seed}

-- the bytes that a seed's name has in the file
abbrev pub text_of : List ℕ → Seed → Option (List ℕ)
text_of bytes s = option_map (span_bytes bytes) s.name

-- the lesser of two names, if there are two
abbrev pub lesser_name : Option (List ℕ) → Option (List ℕ) → Option (List ℕ)
lesser_name None o = o
lesser_name (Some s) None = Some s
lesser_name (Some s) (Some t) = Some (lesser s t)

-- the second name, if it is one, is not less than the first
abbrev pub IsNoLess : Option (List ℕ) → Option (List ℕ) → Type 0
IsNoLess o None = Unit {0}
IsNoLess None (Some t) = ⊥
IsNoLess (Some s) (Some t) = is_lt (slice_cmp nat_cmp t s) ≡ false

-- a name is the least of those of some seeds at an address
pub record IsLeastName (bytes : List ℕ) (In : Seed → Type 0) (a : ℕ)
    (name : Option (List ℕ)) : Type 0 where
  pub some : IfSome name (λ t. (s : Seed) × In s × (s.address ≡ a) × (text_of bytes s ≡ Some t))
  pub least : (s : Seed) → In s → s.address ≡ a → IsNoLess name (text_of bytes s)
