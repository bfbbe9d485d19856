use Rattle.std.proofs.lemmas.Result.{IfOk-weaker}
use Rattle.code_tables.specs.Parts.{AreTablesAmong, AreTablesIn}
use Rattle.code_tables.proofs.AllTables.{among-in}
use Rattle.code_tables.proofs.everywhere.tables_in.Goals as goal

pub returns : goal.returns
returns c =
    let bytes = c.args.code.now.bytes in
    IfOk-weaker c.tables_among.result (λ jumps. AreTablesAmong bytes c.deref.result.now jumps.items) (λ jumps. AreTablesIn bytes c.args.range jumps.items)
    (λ jumps among. among-in bytes c.args.range c.deref.result.now (rw c.deref.ensures.value c.in_ok-places.ensures.tables) jumps.items among)
    c.tables_among.ensures
