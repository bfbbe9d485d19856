use Rattle.std.proofs.Common.{arith}
use Rattle.elf_maker.specs.MadeOf.{IsMadeOf}
use Rattle.big_case.specs.BigCase.{big_parts}
use Rattle.big_case.proofs.Slots.{length-code_bytes}
use Rattle.big_case.proofs.Fitting.{apart, small, one_seed}
use Rattle.big_case.proofs.make.big_file.Goals as goal

pub make_elf-requires-clause-some_code : goal.make_elf-requires-clause-some_code
make_elf-requires-clause-some_code c = rw c.in_ok-parts.ensures (omega (arith, length-code_bytes c.args.n))

pub make_elf-requires-clause-even_length : goal.make_elf-requires-clause-even_length
make_elf-requires-clause-even_length c = rw c.in_ok-parts.ensures (omega (arith, length-code_bytes c.args.n))

pub make_elf-requires-clause-entry_end : goal.make_elf-requires-clause-entry_end
make_elf-requires-clause-entry_end c = rw c.in_ok-parts.ensures (omega (arith, length-code_bytes c.args.n))

pub make_elf-requires-clause-disjoint : goal.make_elf-requires-clause-disjoint
make_elf-requires-clause-disjoint c = rw c.in_ok-parts.ensures (apart c.args.n c.requires.most)

pub make_elf-requires-clause-small : goal.make_elf-requires-clause-small
make_elf-requires-clause-small c = rw c.in_ok-parts.ensures (small c.args.n c.requires.most)

pub returns-clause-one_seed : goal.returns-clause-one_seed
returns-clause-one_seed c =
    let made : IsMadeOf (big_parts c.args.n) c.in_ok-file.file.items = rw (← c.in_ok-parts.ensures) c.in_ok-file.ensures.made in
    one_seed c.args.n c.in_ok-file.file.items made
