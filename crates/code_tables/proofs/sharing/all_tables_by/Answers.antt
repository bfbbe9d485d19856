use Rattle.code_tables.proofs.AllTables.{gaps-all}
use Rattle.code_tables.proofs.sharing.all_tables_by.Goals as goal

pub new-requires : goal.new-requires
new-requires g c = (
  c.args.code.now.bytes,
  gaps-all c.args.code.now.bytes c.in_ok-bounds.bounds.items c.in_ok-parts.parts.items (rw c.deref.ensures.value at c.in_ok-parts.ensures) c.in_ok-jumps.jumps.items
      c.in_ok-jumps.ensures.made c.in_ok-jumps.ensures.joined,
)

pub returns : goal.returns
returns g c =
    c.new.ensures c.args.code.now.bytes
    (gaps-all c.args.code.now.bytes c.in_ok-bounds.bounds.items c.in_ok-parts.parts.items (rw c.deref.ensures.value at c.in_ok-parts.ensures) c.in_ok-jumps.jumps.items
    c.in_ok-jumps.ensures.made c.in_ok-jumps.ensures.joined)
