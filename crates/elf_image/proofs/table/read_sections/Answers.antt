use Rattle.elf_image.specs.Sections.{section}
use Rattle.elf_image.proofs.Ranges.{range-push}
use Rattle.elf_image.proofs.table.read_sections.Goals as goal

pub loop-i-preserved : goal.loop-i-preserved
loop-i-preserved c =
    range-push (section c.args.bytes.now) c.loop-i.i c.loop-i.headers.items c.push.new.self.items c.section_at.result
    c.loop-i.invariant c.section_at.ensures c.in_ok-push.ensures.items
