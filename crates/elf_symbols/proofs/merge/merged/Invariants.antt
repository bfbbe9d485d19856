use Rattle.std.proofs.Common.{take}
use Rattle.elf_symbols.specs.Inner.Merged.{AreMerged}
use Rattle.elf_symbols.proofs.merge.merged.Given as goal

abbrev pub invariant-loop-seed : goal.invariant-loop-seed
invariant-loop-seed l = AreMerged l.image (take l.seed-index l.sorted) l.merged.items
