use Rattle.std.proofs.Common.{subst}
use Rattle.elf_symbols.specs.Inner.Tables.{IsTable}
use Rattle.elf_symbols.proofs.Tables.{good-of_table, bad-of_table, first-none, names-no_table}
use Rattle.elf_symbols.proofs.read.symbol_seeds.Goals as goal

pub returns-in-Ok-Some-clause-good : goal.returns-in-Ok-Some-clause-good
returns-in-Ok-Some-clause-good c =
    let bytes = c.args.image.now in
    good-of_table bytes c.table_seeds.result c.in-Ok-Some.table (subst (IsTable bytes) c.in-Ok-Some.field-0-is c.in-Ok-Some.ensures.table) c.in-Ok-Some.ensures.good c.table_seeds.ensures.good

pub returns-in-Ok-Some-clause-bad : goal.returns-in-Ok-Some-clause-bad
returns-in-Ok-Some-clause-bad c =
    let bytes = c.args.image.now in
    bad-of_table bytes c.table_seeds.result c.in-Ok-Some.table (subst (IsTable bytes) c.in-Ok-Some.field-0-is c.in-Ok-Some.ensures.table) c.in-Ok-Some.ensures.good c.table_seeds.ensures.bad

pub returns-in-Ok-None-clause-good : goal.returns-in-Ok-None-clause-good
returns-in-Ok-None-clause-good c =
    let bytes = c.args.image.now in
    first-none bytes c.in-Ok-None.ensures.good (names-no_table bytes (subst (IsTable bytes) c.in-Ok-None.field-0-is c.in-Ok-None.ensures.table))
