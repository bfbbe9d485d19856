use Rattle.std.proofs.Common.{◌∙◌, ap}
use Rattle.std.proofs.lemmas.Result.{IfOk-weaker}
use Rattle.elf_image.specs.Sections.{is_code_section}
use Rattle.elf_image.specs.FaultTests.{any_pair, shares_address}
use Rattle.elf_image.proofs.Filled.{filled-kept, finds_among, pairs-filled}
use Rattle.elf_image.proofs.layout.code_index.Goals as goal

pub new-requires : goal.new-requires
new-requires c = filled-kept is_code_section c.args.sections.now c.in_ok-filled_code.field-0.items c.in_ok-filled_code.ensures

pub returns-clause-finds : goal.returns-clause-finds
returns-clause-finds c =
    IfOk-weaker c.new.result _ _
    (λ index same. finds_among is_code_section index.sections.items c.args.sections.now c.in_ok-filled_code.field-0.items c.in_ok-filled_code.ensures same)
    c.new.ensures.same

pub returns-clause-overlap : goal.returns-clause-overlap
returns-clause-overlap c =
    IfOk-weaker c.new.result _ _
    (λ index overlap. overlap ∙ ap (any_pair shares_address) c.in_ok-filled_code.ensures ∙ pairs-filled is_code_section c.args.sections.now)
    c.new.ensures.overlap
