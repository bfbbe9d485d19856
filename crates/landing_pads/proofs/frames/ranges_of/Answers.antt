use Rattle.std.proofs.Common.{◌≡◌, ◌∙◌, ap, arith}
use Rattle.elf_image.specs.Header.{section_count}
use Rattle.elf_image.specs.Sections.{sections}
use Rattle.landing_pads.specs.Pad.{ranges}
use Rattle.landing_pads.proofs.AllSections.{ranges_to, sections-more}
use Rattle.landing_pads.proofs.frames.ranges_of.Goals as goal

pub loop-i-preserved : goal.loop-i-preserved
loop-i-preserved c =
    sections-more c.args.image.now c.loop-i.i c.loop-i.ranges.items c.push_section.new.ranges.items c.loop-i.invariant c.in_ok-push_section.ensures

pub returns : goal.returns
unfolding ranges sections
returns c =
    let all : c.loop-i.i ≡ section_count c.args.image.now = omega (arith, c.section_count-i-end.ensures.count, c.loop-i-test.false, c.loop-i.auto.i-end) in
    c.loop-i.invariant ∙ ap (ranges_to c.args.image.now) all
