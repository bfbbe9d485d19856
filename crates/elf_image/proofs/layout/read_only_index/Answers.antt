use Rattle.std.proofs.lemmas.Result.{IfOk-weaker}
use Rattle.elf_image.specs.Sections.{is_read_only_section}
use Rattle.elf_image.proofs.Filled.{filled-kept, finds_among}
use Rattle.elf_image.proofs.layout.read_only_index.Goals as goal

pub new-requires : goal.new-requires
new-requires c =
    filled-kept is_read_only_section c.args.sections.now c.in_ok-filled_read_only.field-0.items c.in_ok-filled_read_only.ensures

pub returns : goal.returns
returns c =
    IfOk-weaker c.new.result _ _
    (λ index same. finds_among is_read_only_section index.sections.items c.args.sections.now c.in_ok-filled_read_only.field-0.items c.in_ok-filled_read_only.ensures same)
    c.new.ensures.same
