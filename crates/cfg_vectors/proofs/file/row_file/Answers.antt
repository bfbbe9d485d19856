use Rattle.std.proofs.Common.{arith}
use Rattle.cfg_vectors.proofs.Shapes.{code-shape, symbols-shape, file-shape}
use Rattle.cfg_vectors.proofs.file.row_file.Goals as goal

pub make_elf-requires-clause-some_code : goal.make_elf-requires-clause-some_code
make_elf-requires-clause-some_code c = rw c.in_ok-parts.ensures (code-shape c.args.row c.args.part).0

pub make_elf-requires-clause-even_length : goal.make_elf-requires-clause-even_length
make_elf-requires-clause-even_length c = rw c.in_ok-parts.ensures (code-shape c.args.row c.args.part).1

pub make_elf-requires-clause-entry_end : goal.make_elf-requires-clause-entry_end
make_elf-requires-clause-entry_end c =
    rw c.in_ok-parts.ensures (let code = code-shape c.args.row c.args.part in omega arith)

pub make_elf-requires-clause-disjoint : goal.make_elf-requires-clause-disjoint
make_elf-requires-clause-disjoint c =
    rw c.in_ok-parts.ensures (let code = code-shape c.args.row c.args.part in omega arith)

pub make_elf-requires-clause-names : goal.make_elf-requires-clause-names
make_elf-requires-clause-names c = rw c.in_ok-parts.ensures (symbols-shape c.args.row c.args.part).0

pub make_elf-requires-clause-small : goal.make_elf-requires-clause-small
make_elf-requires-clause-small c = rw c.in_ok-parts.ensures (file-shape c.args.row c.args.part)
