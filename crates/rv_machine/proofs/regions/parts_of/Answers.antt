use Rattle.std.proofs.Common.{map, length, sym, ap, ◌∙◌}
use Rattle.std.proofs.lemmas.List.{with_items_is}
use Rattle.rv_machine.specs.Inner.Parts.{part_bytes}
use Rattle.rv_machine.specs.Inner.Extents.{extent_of, zero_bytes}
use Rattle.rv_machine.proofs.FirstParts.{all_bytes}
use Rattle.rv_machine.proofs.Layered.{extents-whole, covers-section, layered, same-many}
use Rattle.rv_machine.proofs.regions.parts_of.Goals as goal

pub united-requires : goal.united-requires
united-requires c = record { whole = extents-whole c.args.image.now c.in_ok-extents_of.field-0.items c.in_ok-extents_of.ensures }

pub write_sections-requires-clause-there : goal.write_sections-requires-clause-there
write_sections-requires-clause-there c =
    covers-section c.args.image.now c.in_ok-extents.extents.items c.in_ok-extents_of.field-0.items c.deref_mut.result.now c.in_ok-extents_of.ensures c.in_ok-extents.ensures.same
    (ap (map extent_of) c.deref_mut.ensures.value ∙ c.in_ok-parts.ensures.extents ∙ c.deref.ensures.value)

pub returns-clause-bytes : goal.returns-clause-bytes
returns-clause-bytes c =
    let parts = c.in_ok-parts.parts in
    let many = same-many c.deref_mut.result.now c.write_sections.new.parts c.write_sections.ensures.extents ∙ ap length c.deref_mut.ensures.value ∙ sym parts.ok.0 in
    ap all_bytes (with_items_is parts c.write_sections.new.parts many)
    ∙ layered c.args.image.now c.in_ok-extents.extents.items c.in_ok-extents_of.field-0.items c.deref_mut.result.now c.write_sections.new.parts c.in_ok-extents_of.ensures c.in_ok-extents.ensures.same
    (ap (map part_bytes) c.deref_mut.ensures.value ∙ c.in_ok-parts.ensures.bytes ∙ ap (map zero_bytes) c.deref.ensures.value)
    c.write_sections.ensures.bytes
