use Rattle.std.proofs.Common.{◌≡◌, ◌+◌, ◌<◌, sym, ap, ◌∙◌, arith}
use Rattle.elf_image.specs.Header.{section_count}
use Rattle.rv_machine.proofs.FileParts.{first_loaded, size_of, size-more, size-skip, too-much, not-too-much}
use Rattle.rv_machine.proofs.regions.is_too_much.Goals as goal
use Rattle.rv_machine.proofs.regions.is_too_much.Goals.{then-is_loaded+else-section-total, else-is_loaded}

pub returns-then-section-total : goal.returns-then-section-total
returns-then-section-total c =
    let file = c.args.image.now in
    let below : c.loop-i.i < section_count file = omega (arith, c.section_count-i-end.ensures.count) in
    sym (too-much file c.loop-i.i c.section-section.result c.loop-i.total c.section-section.ensures.section below (sym c.is_loaded.ensures ∙ c.if-is_loaded.true) c.loop-i.invariant.known c.loop-i.invariant.small c.if-section-total.true)

pub loop-i-preserved : goal.loop-i-preserved
loop-i-preserved c =
    let file = c.args.image.now in
    let s = c.section-section.result in
    let below : c.loop-i.i < section_count file = omega (arith, c.section_count-i-end.ensures.count) in
    elim c.if-is_loaded.branch [
      | then-is_loaded+else-section-total w ↦
          let more = size-more file c.loop-i.i s c.section-section.ensures.section below (sym c.is_loaded.ensures ∙ w.if-is_loaded.true) in
          record { small = omega (arith, w.total-is); known = w.total-is ∙ ap (λ n. n + s.size) c.loop-i.invariant.known ∙ sym more }
      | else-is_loaded w ↦
          let skip = size-skip file c.loop-i.i s c.section-section.ensures.section below (sym c.is_loaded.ensures ∙ w.if-is_loaded.false) in
          record { small = omega (arith, w.total-is); known = w.total-is ∙ c.loop-i.invariant.known ∙ sym skip }
    ]

pub returns : goal.returns
returns c =
    let file = c.args.image.now in
    let end : c.loop-i.i ≡ section_count file = omega (arith, c.section_count-i-end.ensures.count) in
    sym (not-too-much file c.loop-i.total (c.loop-i.invariant.known ∙ ap (λ n. size_of (first_loaded file n)) end) c.loop-i.invariant.small)
