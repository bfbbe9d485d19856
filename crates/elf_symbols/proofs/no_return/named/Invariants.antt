use Rattle.std.proofs.Common.{◌≡◌, map, take}
use Rattle.std.specs.List.{filter}
use Rattle.elf_symbols.specs.declared.seed.Seed.{Seed}
use Rattle.elf_symbols.specs.Inner.NoReturn.{has_listed_name}
use Rattle.elf_symbols.proofs.no_return.named.Given as goal

abbrev pub invariant-loop-s : goal.invariant-loop-s
invariant-loop-s l = l.found.items ≡ map (λ (s : Seed). s.address) (filter (has_listed_name l.image) (take l.s-index l.seeds))
