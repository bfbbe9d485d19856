use Rattle.std.proofs.Common.{sym, ap, ◌∙◌}
use Rattle.elf_image.specs.declared.section.Section.{Section}
use Rattle.rv_machine.specs.FileMemory.{is_loaded, section_bytes}
use Rattle.rv_machine.specs.Inner.Extents.{over}
use Rattle.rv_machine.proofs.FirstParts.{all_bytes}
use Rattle.rv_machine.proofs.Layered.{written-none, written-more, written-skip}
use Rattle.rv_machine.proofs.regions.write_sections.Goals as goal

pub loop-left-init : goal.loop-left-init
loop-left-init c = written-none c.args.image.now c.args.parts.now c.section_count-left.result c.section_count-left.ensures.count

pub loop-left-preserved-then-is_loaded : goal.loop-left-preserved-then-is_loaded
loop-left-preserved-then-is_loaded c =
    let file = c.args.image.now in
    written-more file c.args.parts.now c.loop-left.parts c.write_section.new.parts c.loop-left.left c.loop-left-test.true c.loop-left.invariant
    (ap is_loaded (sym c.section-section.ensures.section) ∙ sym c.is_loaded.ensures ∙ c.if-is_loaded.true)
    c.write_section.ensures.extents
    (λ a. c.write_section.ensures.bytes a ∙ ap (λ (s : Section). over (section_bytes file s) (all_bytes c.loop-left.parts) a) c.section-section.ensures.section)

pub loop-left-preserved : goal.loop-left-preserved
loop-left-preserved c =
    written-skip c.args.image.now c.args.parts.now c.loop-left.parts c.loop-left.left c.loop-left-test.true c.loop-left.invariant
    (ap is_loaded (sym c.section-section.ensures.section) ∙ sym c.is_loaded.ensures ∙ c.if-is_loaded.false)
