-- What the file of a large program of n functions is made of: this project's profile.
use Rattle.std.specs.Prelude.{ℕ, []}
use Rattle.elf_maker.specs.declared.parts.Parts.{Parts}
use Rattle.big_case.specs.Places.{slot_at, table_at}
use Rattle.big_case.specs.Slots.{code_bytes}
use Rattle.big_case.specs.Tables.{rodata_bytes}

-- the program starts at slot 0, and has no symbols
abbrev pub big_parts : ℕ → Parts
big_parts n = record {
  entry = slot_at 0;
  code_at = slot_at 0;
  code = code_bytes n;
  rodata_at = table_at 0;
  rodata = rodata_bytes n;
  symbols = [];
}
