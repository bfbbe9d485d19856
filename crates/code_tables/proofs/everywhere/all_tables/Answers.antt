use Rattle.code_tables.proofs.AllTables.{among-all}
use Rattle.code_tables.proofs.everywhere.all_tables.Goals as goal

pub new-requires : goal.new-requires
new-requires c = (
  c.args.code.now.bytes,
  among-all c.args.code.now.bytes c.deref.result.now (rw c.deref.ensures.value c.in_ok-places.ensures.tables) c.in_ok-jumps.jumps.items c.in_ok-jumps.ensures,
)

pub returns : goal.returns
returns c =
    c.new.ensures c.args.code.now.bytes
    (among-all c.args.code.now.bytes c.deref.result.now (rw c.deref.ensures.value c.in_ok-places.ensures.tables) c.in_ok-jumps.jumps.items c.in_ok-jumps.ensures)
