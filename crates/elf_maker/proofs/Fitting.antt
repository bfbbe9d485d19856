-- The conditions of `make_elf`, and the bounds that follow.
use Rattle.std.proofs.Common.{◌≡◌, ◌+◌, ◌-◌, ◌<◌, ◌≤◌, ◌^◌, ◌%◌, true, length}
use Rattle.std.specs.List.{All}
use Rattle.elf_maker.specs.declared.parts.Parts.{Parts}
use Rattle.elf_maker.specs.Fit.{AreDisjoint, have_whole_names}
use Rattle.elf_maker.specs.MadeFile.{made_file}

-- parts of which a file can be made
pub record AreFit (parts : Parts) : Type 0 where
  pub some_code : 0 < length parts.code
  pub even_length : length parts.code % 2 ≡ 0
  pub even_code : parts.code_at % 2 ≡ 0
  pub even_entry : parts.entry % 2 ≡ 0
  pub entry_start : parts.code_at ≤ parts.entry
  pub entry_end : parts.entry < parts.code_at + length parts.code
  pub disjoint : AreDisjoint parts.code_at (length parts.code) parts.rodata_at (length parts.rodata)
  pub code_end : parts.code_at + length parts.code ≤ 2 ^ 64 - 1
  pub rodata_end : parts.rodata_at + length parts.rodata ≤ 2 ^ 64 - 1
  pub names : have_whole_names parts.symbols ≡ true
  pub small : length (made_file parts) ≤ 67108864
  pub addresses : All (λ s. s.address < 2 ^ 64) parts.symbols
