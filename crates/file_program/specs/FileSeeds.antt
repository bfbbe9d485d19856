-- The seeds of a file, and their names.
use Rattle.std.specs.Prelude.{◌≡◌, ℕ, ◌<◌, List, None, IfSome, All, Contains, IsTrue, length}
use Rattle.std.specs.Option.{option_map}
use Rattle.elf_image.specs.Code.{is_code}
use Rattle.elf_image.specs.Faults.{first_fault}
use Rattle.elf_image.specs.Header.{entry}
use Rattle.elf_image.specs.ReadOnly.{span_bytes}
use Rattle.elf_image.specs.Seeds.{seeds, seed_name}
use Rattle.elf_symbols.specs.declared.seed.Seed.{Seed}
use Rattle.elf_symbols.specs.Seeds.{addresses_of, name_in, LiesIn}

-- The seeds of a file that has no fault, with their names.
pub record AreSeedsOf (bytes : List ℕ) (found : List Seed) : Type 0 where
  pub accepted : first_fault bytes ≡ None
  pub addresses : addresses_of found ≡ seeds bytes
  pub names : (a : ℕ) → option_map (span_bytes bytes) (name_in found a) ≡ seed_name bytes a
  pub in_file : (a : ℕ) → IfSome (name_in found a) (LiesIn bytes)
  pub some : 0 < length (addresses_of found)
  pub entry : Contains (addresses_of found) (entry bytes)
  pub code : All (λ a. IsTrue (is_code bytes a)) (addresses_of found)
