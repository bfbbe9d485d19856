use Rattle.std.proofs.Common.{◌+◌, ◌*◌}
use Rattle.elf_image.specs.Number.{u64_at}
use Rattle.elf_image.proofs.Ranges.{range-push_after}
use Rattle.elf_image.proofs.declared.push_no_returns.Goals as goal

pub loop-i-preserved : goal.loop-i-preserved
loop-i-preserved c =
    range-push_after (λ i. u64_at c.args.bytes.now (c.args.s.now.offset + 8 * i)) c.loop-i.i c.args.found.now.items c.loop-i.found.items c.push.new.self.items _
    c.loop-i.invariant c.u64_at.ensures c.in_ok-push.ensures.items
