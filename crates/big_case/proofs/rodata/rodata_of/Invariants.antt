use Rattle.std.proofs.Common.{◌≡◌, map}
use Rattle.std.specs.List.{flat_map, range_with_len}
use Rattle.elf_maker.specs.Fields.{words}
use Rattle.big_case.specs.Tables.{table}
use Rattle.big_case.proofs.rodata.rodata_of.Given as goal

-- the tables up to here
abbrev pub invariant-loop-j : goal.invariant-loop-j
invariant-loop-j l = l.rodata.items ≡ flat_map words (map table (range_with_len 0 l.j))
