use Rattle.std.proofs.Common.{◌≡◌, ◌<◌, ◌∙◌, false, Some, sym, ap, subst, length, get_or, arith}
use Rattle.elf_image.specs.Header as header
use Rattle.elf_image.specs.Sections.{section, is_code_section, holds_bytes}
use Rattle.elf_image.specs.Code.{code_section_of}
use Rattle.elf_image.specs.FaultTests.{is_out_of_file}
use Rattle.elf_image.specs.Faults.{IsImage}
use Rattle.elf_image.proofs.Accepted.{is_small, is_in_file}
use Rattle.elf_image.proofs.Ranges.{length-sections, get_or-sections, Contains-section}
use Rattle.elf_image.proofs.OneSection.{code_section-same}
use Rattle.elf_image.proofs.image.Image.section.Goals as goal
use Rattle.elf_image.proofs.image.Image.section.Goals.{After-self}

-- the index is below the number of sections of the file that is kept
within : (c : After-self) → c.args.i < header.section_count c.self.inside.bytes.items
within c = subst (λ bytes. c.args.i < header.section_count bytes) (sym c.self.view_is) c.requires

pub index-requires : goal.index-requires
index-requires c =
    omega (arith, within c, ap length c.self.invariant.layout.headers, length-sections c.self.inside.bytes.items, c.self.inside.layout.sections.ok.0)

-- the element that is read is the section of that index
is_section : (c : goal.After-result-1) → c.index.result.now ≡ section c.self.inside.bytes.items c.args.i
is_section c =
    c.index.ensures ∙ ap (λ xs. get_or xs c.args.i c.index.result.now) c.self.invariant.layout.headers
    ∙ get_or-sections c.self.inside.bytes.items c.args.i c.index.result.now (within (goal.at.returns-clause-section c).After-self)

pub returns-clause-section : goal.returns-clause-section
returns-clause-section c = is_section c ∙ ap (λ bytes. section bytes c.args.i) c.self.view_is

pub returns-clause-in_file : goal.returns-clause-in_file
returns-clause-in_file c =
    let bytes = c.self.inside.bytes.items in
    let there = Contains-section bytes c.args.i (within (goal.at.returns-clause-in_file c).After-self) in
    let fits = is_in_file bytes c.self.invariant.image (section bytes c.args.i) there in
    subst (λ file. is_out_of_file (length file) c.index.result.now ≡ false) c.self.view_is
    (ap (is_out_of_file (length bytes)) (is_section c) ∙ fits)

pub returns-clause-code : goal.returns-clause-code
returns-clause-code c = λ a code even holds.
    let bytes = c.self.inside.bytes.items in
    let is = is_section c in
    let there = Contains-section bytes c.args.i (within (goal.at.returns-clause-code c).After-self) in
    let same = code_section-same bytes c.self.invariant.image a (section bytes c.args.i) there (sym (ap is_code_section is) ∙ code) even (sym (ap (holds_bytes a 2) is) ∙ holds) in
    ap (λ file. code_section_of file a) (sym c.self.view_is) ∙ same ∙ ap Some (sym is)

pub returns-clause-small : goal.returns-clause-small
returns-clause-small c = omega (arith, ap length c.self.view_is, is_small c.self.inside.bytes.items c.self.invariant.image)

pub returns-clause-image : goal.returns-clause-image
returns-clause-image c = subst IsImage c.self.view_is c.self.invariant.image
