use Rattle.std.proofs.Common.{◌≡◌, ◌<◌, ◌++◌, ◌∷◌, [], List, map, false, subst, sym, ap, ◌∙◌, arith}
use Rattle.elf_image.specs.declared.section.Section.{Section}
use Rattle.elf_image.specs.Header.{section_count}
use Rattle.elf_image.specs.Sections.{section}
use Rattle.elf_image.specs.FaultTests.{is_wrapping}
use Rattle.elf_image.proofs.Accepted.{is_in_memory}
use Rattle.elf_image.proofs.Ranges.{Contains-section}
use Rattle.rv_machine.specs.declared.extent.Extent.{Extent}
use Rattle.rv_machine.specs.Inner.Extents.{section_extent, stack_extent}
use Rattle.rv_machine.proofs.FileParts.{first_loaded, loaded-skip, loaded-all}
use Rattle.rv_machine.proofs.Layered.{extents-more}
use Rattle.rv_machine.proofs.regions.extents_of.Goals as goal
use Rattle.rv_machine.proofs.regions.extents_of.Goals.{then-is_loaded+in_ok-push, else-is_loaded}

pub of_section-requires-clause-in_memory : goal.of_section-requires-clause-in_memory
of_section-requires-clause-in_memory c =
    let file = c.args.image.now in
    let below : c.loop-i.i < section_count file = omega (arith, c.section_count-i-end.ensures.count) in
    subst (λ (s : Section). is_wrapping s ≡ false) (sym c.section-section.ensures.section)
    (is_in_memory file c.section-section.ensures.image (section file c.loop-i.i) (Contains-section file c.loop-i.i below))

pub loop-i-preserved : goal.loop-i-preserved
loop-i-preserved c =
    let file = c.args.image.now in
    let s = c.section-section.result in
    let below : c.loop-i.i < section_count file = omega (arith, c.section_count-i-end.ensures.count) in
    elim c.if-is_loaded.branch [
      | then-is_loaded+in_ok-push w ↦
          extents-more file c.loop-i.i s w.of_section.result c.loop-i.extents.items c.if-is_loaded.extents.items c.section-section.ensures.section below (sym c.is_loaded.ensures ∙ w.if-is_loaded.true) w.of_section.ensures c.loop-i.invariant (ap (λ v. v.items) w.extents-is ∙ w.in_ok-push.ensures.items)
      | else-is_loaded w ↦
          ap (λ v. v.items) w.extents-is ∙ c.loop-i.invariant
          ∙ ap (map section_extent) (sym (loaded-skip file c.loop-i.i s c.section-section.ensures.section below (sym c.is_loaded.ensures ∙ w.if-is_loaded.false)))
    ]

pub returns : goal.returns
returns c =
    let file = c.args.image.now in
    let end : c.loop-i.i ≡ section_count file = omega (arith, c.section_count-i-end.ensures.count) in
    c.in_ok-push-2.ensures.items
    ∙ ap (λ (xs : List Extent). xs ++ stack_extent ∷ []) (c.loop-i.invariant ∙ ap (λ n. map section_extent (first_loaded file n)) end ∙ ap (map section_extent) (loaded-all file))
