use Rattle.std.proofs.Common.{◌≤◌, ◌∙◌, length, sym, arith}
use Rattle.elf_image.specs.Symbols.{symbol_tables}
use Rattle.elf_symbols.proofs.Tables.{bad-many, good-none, judged-one, first-table}
use Rattle.elf_symbols.proofs.table.symbol_table.Goals as goal

pub returns-then-table_count-gt1-clause-bad : goal.returns-then-table_count-gt1-clause-bad
returns-then-table_count-gt1-clause-bad c = first-table c.args.image.now (bad-many c.args.image.now (omega arith))

pub returns-in_default-clause-good : goal.returns-in_default-clause-good
returns-in_default-clause-good c = good-none c.args.image.now (sym c.in_default.ensures.first)

pub returns-in_default-string_table-clause-bad : goal.returns-in_default-string_table-clause-bad
returns-in_default-string_table-clause-bad c =
    let few : length (symbol_tables c.args.image.now) ≤ 1 = omega arith in
    first-table c.args.image.now (judged-one c.args.image.now c.in-Some.symbols few (sym c.in-Some.ensures.first) ∙ sym c.in_default-string_table.ensures.bad)

pub returns-clause-good : goal.returns-clause-good
returns-clause-good c =
    let few : length (symbol_tables c.args.image.now) ≤ 1 = omega arith in
    judged-one c.args.image.now c.in-Some.symbols few (sym c.in-Some.ensures.first) ∙ sym c.in-Some-string_table.ensures.bad
