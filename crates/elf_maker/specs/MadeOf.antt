-- What is known of the file that is made of some parts, in the words of those who read it.
use Rattle.std.specs.Prelude.{◌≡◌, ◌↔◌, ℕ, List}
use Rattle.std.specs.List.{Contains}
use Rattle.std.specs.declared.option.Option.TheVariants.{None}
use Rattle.elf_image.specs.Header as header
use Rattle.elf_image.specs.Code.{is_code, half_at, word_at}
use Rattle.elf_image.specs.ReadOnly.{is_read_only, data_word}
use Rattle.elf_image.specs.Seeds.{seeds}
use Rattle.elf_image.specs.Faults.{first_fault}
use Rattle.elf_maker.specs.declared.parts.Parts.{Parts}
use Rattle.elf_maker.specs.Given.{is_code_given, half_given, word_given, is_read_only_given}
use Rattle.elf_maker.specs.Given.{data_given, IsSeedGiven}

-- the file has no fault, and its entry, code, read-only data and seeds are those of the parts
pub record IsMadeOf (parts : Parts) (bytes : List ℕ) : Type 0 where
  pub no_fault : first_fault bytes ≡ None
  pub entry : header.entry bytes ≡ parts.entry
  pub code : (a : ℕ) → is_code bytes a ≡ is_code_given parts a
  pub halves : (a : ℕ) → half_at bytes a ≡ half_given parts a
  pub words : (a : ℕ) → word_at bytes a ≡ word_given parts a
  pub read_only : (a : ℕ) → is_read_only bytes a ≡ is_read_only_given parts a
  pub data_words : (a : ℕ) → data_word bytes a ≡ data_given parts a
  pub seeds : (a : ℕ) → Contains (seeds bytes) a ↔ IsSeedGiven parts a
