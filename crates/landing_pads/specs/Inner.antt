-- Words of private functions and of proofs. No public clause names what stands here.
use Rattle.std.specs.Prelude.{◌≡◌, ℕ, ◌+◌, ◌≤◌, Bool, true, false, List, length}
use Rattle.std.specs.Option.{option_map}
use Rattle.std.specs.declared.option.Option.{Option}
use Rattle.landing_pads.specs.declared.cursor.Cursor.{Cursor}
use Rattle.elf_image.specs.declared.section.Section.{Section}
use Rattle.elf_image.specs.Attributes.{Leb}
use Rattle.std.specs.declared.option.Option.TheVariants.{Some}
use Rattle.std.specs.Ordering.{nat_cmp}
use Rattle.std.specs.BTreeMap.{BTreeMap, get}
use Rattle.landing_pads.specs.declared.common.Common.{Common}
use Rattle.landing_pads.specs.Place.{Place}
use Rattle.landing_pads.specs.Common.{common_at}
use Rattle.landing_pads.specs.Number.{extended}

-- where a cursor stands
abbrev pub place_of : Cursor → Place
place_of c = record { address = c.address; bytes = c.bytes.now }

-- what was read, and the place after it
abbrev pub read_of : {X : Type 0} → Option (X × Cursor) → Option (X × Place)
read_of read = option_map (λ r. (r.0, place_of r.1)) read

-- what the last byte of a LEB128 counts as
abbrev pub last_as : Bool → ℕ → ℕ
last_as false b = b
last_as true b = extended 7 b

-- a number that was read, as a pair
abbrev pub leb_of : Leb → ℕ × ℕ
leb_of n = (n.value, n.size)

-- all bytes of a section stand in the file, which is small enough for 32-bit offsets
pub record IsInFile (bytes : List ℕ) (s : Section) : Type 0 where
  pub within : s.offset + s.size ≤ length bytes
  pub small : length bytes ≤ 67108864

-- what is kept of the common records of a section is what they say
abbrev pub AreRead : Place → BTreeMap ℕ (Option Common) → Type 0
AreRead section read =
    (at : ℕ) (c : Option Common) → get nat_cmp read at ≡ Some c → c ≡ common_at section at
