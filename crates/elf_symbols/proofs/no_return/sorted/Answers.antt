use Rattle.std.proofs.lemmas.List.Sorted.{IsNonDecreasingBy-from_sort}
use Rattle.elf_symbols.proofs.no_return.sorted.Goals as goal

pub returns-clause-rises : goal.returns-clause-rises
returns-clause-rises c = IsNonDecreasingBy-from_sort (λ b. b) c.sort_unstable.new.self.items c.sort_unstable.ensures.sorted
