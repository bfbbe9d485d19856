use Rattle.std.proofs.Common.{get_or, sym, ◌∙◌, arith}
use Rattle.std.proofs.Math.Seq.{map-set_same}
use Rattle.std.proofs.lemmas.List.Quantifiers.{position-Some}
use Rattle.rv_machine.specs.Inner.Parts.{has_address}
use Rattle.rv_machine.specs.Inner.Extents.{extent_of}
use Rattle.rv_machine.proofs.FirstParts.{found-has}
use Rattle.rv_machine.proofs.PartsApart.{has-parts, holds-whole, section-over, no-part, nothing}
use Rattle.rv_machine.proofs.regions.write_section.Goals as goal

pub write_section-requires-clause-start : goal.write_section-requires-clause-start
write_section-requires-clause-start c =
    let s = c.args.section.now in
    let found = sym c.first_with.ensures ∙ c.in-Some.is in
    (has-parts s.address (get_or c.args.parts.now c.in-Some.i c.index-parts-i.result) (found-has s.address c.args.parts.now c.in-Some.i c.index-parts-i.result found)).0

pub write_section-requires-clause-end : goal.write_section-requires-clause-end
write_section-requires-clause-end c =
    let s = c.args.section.now in
    let found = sym c.first_with.ensures ∙ c.in-Some.is in
    holds-whole c.args.parts.now c.requires.apart s c.requires.there (omega (arith, c.if-section-eq0.false)) c.in-Some.i c.index-parts-i.result
    (position-Some (has_address s.address) c.args.parts.now c.in-Some.i c.index-parts-i.result found).0
    (found-has s.address c.args.parts.now c.in-Some.i c.index-parts-i.result found)

pub returns-in-Some-clause-extents : goal.returns-in-Some-clause-extents
returns-in-Some-clause-extents c =
    map-set_same extent_of c.args.parts.now c.in-Some.i c.write_section.new.self c.index-parts-i.result c.write_section.ensures.extent

pub returns-in-Some-clause-bytes : goal.returns-in-Some-clause-bytes
returns-in-Some-clause-bytes c =
    let s = c.args.section.now in
    let found = sym c.first_with.ensures ∙ c.in-Some.is in
    section-over c.args.parts.now c.requires.apart s c.requires.there (omega (arith, c.if-section-eq0.false)) c.args.image.now c.in-Some.i c.index-parts-i.result c.write_section.new.self
    (position-Some (has_address s.address) c.args.parts.now c.in-Some.i c.index-parts-i.result found).0
    (found-has s.address c.args.parts.now c.in-Some.i c.index-parts-i.result found)
    c.write_section.ensures.bytes

pub returns-in_default-clause-bytes : goal.returns-in_default-clause-bytes
returns-in_default-clause-bytes c =
    let s = c.args.section.now in
    let none = nothing c.first_with.result c.in_default.not-Some in
    let false_is = no-part c.args.parts.now c.requires.apart s c.requires.there (omega (arith, c.if-section-eq0.false)) (sym c.first_with.ensures ∙ none) in
    cc
