use Rattle.std.proofs.Common.{◌+◌, ◌*◌}
use Rattle.elf_image.specs.DeclaredTables.{declared_table}
use Rattle.elf_image.proofs.Ranges.{range-push_after}
use Rattle.elf_image.proofs.declared.push_tables.Goals as goal

pub loop-i-preserved : goal.loop-i-preserved
loop-i-preserved c =
    range-push_after (λ i. declared_table c.args.bytes.now (c.args.s.now.offset + 32 * i)) c.loop-i.i c.args.tables.now.items c.loop-i.tables.items c.push.new.self.items _
    c.loop-i.invariant c.read_table.ensures c.in_ok-push.ensures.items
